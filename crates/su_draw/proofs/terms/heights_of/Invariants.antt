use Rattle.std.proofs.Common.{◌≡◌, ◌++◌, drop}
use Rattle.su_draw.specs.inside.Lay.{heights_from}
use Rattle.su_draw.proofs.terms.heights_of.Given as goal

abbrev pub invariant-loop-line : goal.invariant-loop-line
invariant-loop-line l = l.heights ++ heights_from l.height (drop l.line-index l.lines) ≡ heights_from 10 l.lines
