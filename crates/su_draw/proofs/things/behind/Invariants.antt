use Rattle.std.proofs.Common.{◌≡◌, drop}
use Rattle.su_draw.specs.Things.{behind_sign, symbol_of}
use Rattle.su_draw.proofs.things.behind.Given as goal

abbrev pub invariant-loop-i : goal.invariant-loop-i
invariant-loop-i l = behind_sign l.word (drop l.i l.word) ≡ symbol_of l.word
