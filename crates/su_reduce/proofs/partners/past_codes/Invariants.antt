use Rattle.std.proofs.Common.{ℕ, ◌<◌, [], get_or}
use Rattle.su_reduce.proofs.partners.past_codes.Given as goal

abbrev pub invariant-loop-i : goal.invariant-loop-i
invariant-loop-i l = (j : ℕ) → j < l.i → get_or (get_or l.rows.rows j []) l.place 0 < l.past
