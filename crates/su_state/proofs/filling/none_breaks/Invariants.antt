use Rattle.std.proofs.Common.{All, take}
use Rattle.su_state.specs.inside.SomeBreaches.{BreaksNothing}
use Rattle.su_state.proofs.filling.none_breaks.Given as goal

abbrev pub invariant-loop-row : goal.invariant-loop-row
invariant-loop-row l = All (BreaksNothing l.schema l.relation l.table.rows) (take l.row-index l.rows)
