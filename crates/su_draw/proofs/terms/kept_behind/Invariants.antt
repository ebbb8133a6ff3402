use Rattle.std.proofs.Common.{◌≡◌, drop}
use Rattle.su_draw.specs.Terms.{kept_next}
use Rattle.su_draw.proofs.terms.kept_behind.Given as goal

abbrev pub invariant-loop-line : goal.invariant-loop-line
invariant-loop-line l = kept_next (drop l.line-index l.lines) ≡ kept_next l.lines
