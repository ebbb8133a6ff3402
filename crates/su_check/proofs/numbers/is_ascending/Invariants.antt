use Rattle.std.proofs.Common.{ℕ, ◌<◌, get_or}
use Rattle.su_check.proofs.numbers.is_ascending.Given as goal

abbrev pub invariant-loop-i : goal.invariant-loop-i
invariant-loop-i l = (b : ℕ) → b < l.i → (a : ℕ) → a < b → get_or l.numbers a 0 < get_or l.numbers b 0
