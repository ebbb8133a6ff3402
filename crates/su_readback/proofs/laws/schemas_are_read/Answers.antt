-- The definitions stand by ascending kind, and the maximal objects behind them.
use Rattle.su_readback.proofs.SchemasRead.{schemas_read}
use Rattle.su_readback.proofs.laws.schemas_are_read.Goals as goal

pub returns : goal.returns
returns c = schemas_read
