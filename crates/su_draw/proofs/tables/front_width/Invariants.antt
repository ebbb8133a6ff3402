use Rattle.std.proofs.Common.{◌≡◌, drop}
use Rattle.su_draw.specs.inside.Lay.{front_from}
use Rattle.su_draw.proofs.tables.front_width.Given as goal

abbrev pub invariant-loop-line : goal.invariant-loop-line
invariant-loop-line l = front_from l.width (drop l.line-index l.lines) l.word ≡ front_from 0 l.lines l.word
