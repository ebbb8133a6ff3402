use Rattle.std.proofs.Common.{◌≡◌, ◌++◌, drop}
use Rattle.su_draw.specs.Ears.{edges_from}
use Rattle.su_draw.proofs.ears.edges_of.Given as goal

abbrev pub invariant-loop-number : goal.invariant-loop-number
invariant-loop-number l = l.edges ++ edges_from l.number (drop l.number l.lines) ≡ edges_from 0 l.lines
