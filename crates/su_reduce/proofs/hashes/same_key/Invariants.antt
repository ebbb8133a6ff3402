use Rattle.std.proofs.Common.{◌≡◌, ℕ, ◌<◌, get_or}
use Rattle.su_reduce.proofs.hashes.same_key.Given as goal

abbrev pub invariant-loop-i : goal.invariant-loop-i
invariant-loop-i l = (k : ℕ) → k < l.i → get_or l.left (get_or l.left_key k 0) 0 ≡ get_or l.right (get_or l.right_key k 0) 0
