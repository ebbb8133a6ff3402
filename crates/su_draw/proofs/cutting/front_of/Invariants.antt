use Rattle.std.proofs.Common.{◌≡◌, ◌++◌, drop, take}
use Rattle.su_draw.specs.Cutting.{front_from}
use Rattle.su_draw.proofs.cutting.front_of.Given as goal

abbrev pub invariant-loop-i : goal.invariant-loop-i
invariant-loop-i l = take l.i l.text ++ front_from l.left (drop l.i l.text) ≡ front_from 11 l.text
