use Rattle.std.proofs.Common.{All, take}
use Rattle.su_state.specs.DatabaseValue.{HasColumnKinds}
use Rattle.su_state.proofs.filling.are_typed.Given as goal

abbrev pub invariant-loop-row : goal.invariant-loop-row
invariant-loop-row l = All (HasColumnKinds l.columns) (take l.row-index l.rows)
