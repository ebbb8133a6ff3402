use Rattle.std.proofs.Common.{◌≡◌, map, take}
use Rattle.su_query.proofs.columns.kinds_of.Given as goal

abbrev pub invariant-loop-column : goal.invariant-loop-column
invariant-loop-column l = l.kinds ≡ map (λ c. c.kind) (take l.column-index l.columns)
