-- What the first query has is copied to bytes, and what the second has of the copy is read back.
use Rattle.su_bytes.proofs.Queries.{queries_by_bytes}
use Rattle.su_bytes.proofs.laws.bytes_suffice_for_queries.Goals as goal

pub returns : goal.returns
returns c = queries_by_bytes
