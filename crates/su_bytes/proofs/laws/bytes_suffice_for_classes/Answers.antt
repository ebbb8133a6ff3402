-- A copy of bytes of the universal relation tells of it.
use Rattle.su_bytes.proofs.Classes.{classes_by_bytes}
use Rattle.su_bytes.proofs.laws.bytes_suffice_for_classes.Goals as goal

pub returns : goal.returns
returns c = classes_by_bytes
