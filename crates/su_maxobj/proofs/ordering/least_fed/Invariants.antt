use Rattle.std.proofs.Common.{ℕ, ◌<◌, ◌≡◌, Bool, true, false, Some, slice_get, get_or, MatchOption}
use Rattle.su_maxobj.proofs.ordering.least_fed.Given as goal

-- where none is found so far, none of the earlier ones waits
abbrev pub invariant-loop-i : goal.invariant-loop-i
invariant-loop-i l = MatchOption l.least ((k : ℕ) (d : Bool) → k < l.i → get_or l.waiting k d ≡ false) (λ i. slice_get l.waiting i ≡ Some true)
