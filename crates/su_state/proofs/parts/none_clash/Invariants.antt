use Rattle.std.proofs.Common.{◌++◌}
use Rattle.su_state.specs.inside.Parts.{noted_in}
use Rattle.su_state.proofs.Noted.{AreAlike}
use Rattle.su_state.proofs.parts.none_clash.Given as goal

abbrev pub invariant-loop-position : goal.invariant-loop-position
invariant-loop-position l = AreAlike l.sides (l.stored ++ l.more) (noted_in l.notes) l.position
