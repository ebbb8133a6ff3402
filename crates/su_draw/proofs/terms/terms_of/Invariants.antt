use Rattle.std.proofs.Common.{◌≡◌, ◌++◌, drop}
use Rattle.su_draw.specs.Terms.{terms_from}
use Rattle.su_draw.proofs.terms.terms_of.Given as goal

abbrev pub invariant-loop-number : goal.invariant-loop-number
invariant-loop-number l = l.terms ++ terms_from l.term l.number (drop l.number l.lines) ≡ terms_from 0 0 l.lines
