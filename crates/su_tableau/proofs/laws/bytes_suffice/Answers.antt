-- A tableau frozen to bytes tells of all relations.
use Rattle.su_tableau.proofs.Bytes.{within_by_bytes, least_by_bytes}
use Rattle.su_tableau.proofs.laws.bytes_suffice.Goals as goal

pub returns : goal.returns
returns c = record { within = within_by_bytes; least = least_by_bytes }
