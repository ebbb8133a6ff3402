use Rattle.std.proofs.Common.{List, length}
use Rattle.su_draw.specs.declared.ears.Edge.{Edge}
use Rattle.su_draw.specs.Ears.{IsCoreOf}
use Rattle.su_draw.proofs.ears.core_of.Given as goal

abbrev pub invariant-loop-i : goal.invariant-loop-i
invariant-loop-i l = (core : List Edge) → IsCoreOf l.left.items core → IsCoreOf l.fn.edges core

abbrev pub decreases-loop-i : goal.decreases-loop-i
decreases-loop-i l = length l.left.items
