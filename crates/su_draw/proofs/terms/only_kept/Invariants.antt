use Rattle.std.proofs.Common.{◌≡◌, ◌++◌, drop}
use Rattle.su_draw.specs.Terms.{kept_lines}
use Rattle.su_draw.proofs.terms.only_kept.Given as goal

abbrev pub invariant-loop-number : goal.invariant-loop-number
invariant-loop-number l = l.kept ++ kept_lines (drop l.number l.lines) ≡ kept_lines l.lines
