-- A fitting universal relation is copied to bytes, behind more zeros than its own texts and the given values are long.
use Rattle.su_bytes.proofs.CopiedRelations.{window_by_bytes}
use Rattle.su_bytes.proofs.laws.bytes_suffice_for_windows.Goals as goal

pub returns : goal.returns
returns c = window_by_bytes
