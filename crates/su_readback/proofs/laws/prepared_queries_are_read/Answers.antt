-- What is prepared is within the limits of the reader.
use Rattle.su_readback.proofs.PreparedRead.{prepared_read}
use Rattle.su_readback.proofs.laws.prepared_queries_are_read.Goals as goal

pub returns : goal.returns
returns c = prepared_read
