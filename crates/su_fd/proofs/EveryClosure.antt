-- What holds of every closure.
use Rattle.std.proofs.Common.{◌≡◌, true, List}
use Rattle.std.specs.Ordering.{nat_cmp}
use Rattle.std.specs.FinSet.{FinSet, is_subset}
use Rattle.su_base.proofs.Subsets.{subset_at, subset_by, subset_refl, subset_trans}
use Rattle.su_fd.specs.Closure.{IsClosed, IsClosureOf}
use Rattle.su_fd.specs.Laws.{ClosureIsExtensive, ClosureIsMonotone, ClosureIsIdempotent, ClosureIsClosed, ClosedEqualsClosure, DeterminesIsReflexive, DeterminesIsTransitive}
use Rattle.su_fd.specs.declared.dependencies.Fd.{Fd}

pub extensive : ClosureIsExtensive
extensive fds x c is = subset_by x c (λ a one. (is a).1 (λ s closed within. subset_at x s a within one))

-- a closure is within each closed set that includes its start
pub closure_least : (fds : List Fd) (x c s : FinSet nat_cmp) → IsClosureOf fds x c → IsClosed fds s → is_subset x s ≡ true → is_subset c s ≡ true
closure_least fds x c s is closed within = subset_by c s (λ a one. (is a).0 one s closed within)

pub monotone : ClosureIsMonotone
monotone fds x y c d is_c is_d within = subset_by c d (λ a one. (is_d a).1 (λ s closed over. (is_c a).0 one s closed (subset_trans x y s within over)))

pub closed : ClosureIsClosed
closed fds x c is k f h left =
    subset_by _ c (λ a one. (is a).1 (λ s closed_s within. subset_at _ s a (closed_s k f h (subset_trans _ c s left (closure_least fds x c s is closed_s within))) one))

pub own : (fds : List Fd) (s : FinSet nat_cmp) → IsClosed fds s → IsClosureOf fds s s
own fds s closed_s a = (λ one t closed_t within. subset_at s t a within one, λ all. all s closed_s (subset_refl s))

pub closed_equals : ClosedEqualsClosure
closed_equals fds s = (own fds s, closed fds s s)

pub idempotent : ClosureIsIdempotent
idempotent fds x c is = own fds c (closed fds x c is)

pub reflexive : DeterminesIsReflexive
reflexive fds x a one s closed_s within = subset_at x s a within one

pub transitive : DeterminesIsTransitive
transitive fds x y z to_y to_z a one s closed_s within = to_z a one s closed_s (subset_by y s (λ b in_y. to_y b in_y s closed_s within))
