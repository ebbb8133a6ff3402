use Rattle.su_state.specs.inside.Pairs.{AreMarks}
use Rattle.su_state.proofs.pairs.marks_of.Given as goal

abbrev pub invariant-loop-position : goal.invariant-loop-position
invariant-loop-position l = AreMarks l.sides.right l.rows l.firsts l.position l.marks.items
