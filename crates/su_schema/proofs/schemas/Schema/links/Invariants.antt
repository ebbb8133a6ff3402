use Rattle.su_schema.specs.Known.{columns_at}
use Rattle.su_schema.proofs.PairsSoFar.{PairsSoFar}
use Rattle.su_schema.proofs.schemas.Schema.links.Given as goal

abbrev pub invariant-loop-pair : goal.invariant-loop-pair
invariant-loop-pair l = PairsSoFar l.self (columns_at l.self l.relation) l.pairs l.pair-index l.links
