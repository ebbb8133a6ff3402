use Rattle.std.proofs.Common.{◌≡◌, drop}
use Rattle.su_draw.specs.inside.Lay.{row_from}
use Rattle.su_draw.proofs.terms.row_among.Given as goal

abbrev pub invariant-loop-i : goal.invariant-loop-i
invariant-loop-i l = row_from l.i (drop l.i l.lines) l.word ≡ row_from 0 l.lines l.word
