use Rattle.std.proofs.Common.{◌≡◌, drop}
use Rattle.su_draw.specs.inside.Lay.{fold_next}
use Rattle.su_draw.proofs.terms.fold_behind.Given as goal

abbrev pub invariant-loop-line : goal.invariant-loop-line
invariant-loop-line l = fold_next (drop l.line-index l.lines) ≡ fold_next l.lines
