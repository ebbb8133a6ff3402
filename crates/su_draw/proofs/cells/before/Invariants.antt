use Rattle.std.proofs.Common.{◌≡◌, ◌++◌, drop, take}
use Rattle.su_draw.specs.Things.{name_of}
use Rattle.su_draw.proofs.cells.before.Given as goal

abbrev pub invariant-loop-i : goal.invariant-loop-i
invariant-loop-i l = take l.i l.word ++ name_of (drop l.i l.word) ≡ name_of l.word
