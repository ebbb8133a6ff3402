use Rattle.su_state.specs.inside.Parts.{noted_in}
use Rattle.su_state.proofs.Paired.{AreNoted}
use Rattle.su_state.proofs.pairs.firsts_of.Given as goal

abbrev pub invariant-loop-position : goal.invariant-loop-position
invariant-loop-position l = AreNoted l.left l.rows (noted_in l.notes) l.position l.firsts
