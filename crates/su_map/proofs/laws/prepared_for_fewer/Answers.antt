-- The tables that serve for more rows are those that serve for fewer.
use Rattle.su_map.proofs.Prepared.{prepared_fewer}
use Rattle.su_map.proofs.laws.prepared_for_fewer.Goals as goal

pub returns : goal.returns
returns c = prepared_fewer
