-- A step of the closure: the right side of the first dependency that adds to the set.
use Rattle.std.proofs.Common.{◌∷◌, Some, ℕ, ◌<◌, ◌≡◌, true, false, List, arith, length, get_or, refl, ap, None, []}
use Rattle.std.proofs.lemmas.Option.{slice_get-get_or}
use Rattle.std.specs.List.{position}
use Rattle.std.proofs.lemmas.List.Quantifiers.{position-Some}
use Rattle.su_fd.specs.Closure.{IsClosed, IsClosureOf}
use Rattle.su_fd.specs.Laws.{DerivationReachesClosure}
use Rattle.su_fd.proofs.EveryClosure.{own}
use Rattle.su_fd.specs.Derivation.{IsDerivation, adds, right_side, with_right_sides}
use Rattle.std.specs.Ordering.{nat_cmp}
use Rattle.std.specs.FinSet.{FinSet, is_subset, union, empty}
use Rattle.su_base.proofs.RemainingSets.{remaining, remaining_lt, position-None}
use Rattle.su_base.proofs.Subsets.{subset_trans, union-subset, subset-union_left, subset-union_right}
use Rattle.su_fd.specs.declared.dependencies.Fd.{Fd}

pub right_side_read : (fds : List Fd) (i : ℕ) (d : Fd) → i < length fds → right_side fds i ≡ (get_or fds i d).right
right_side_read fds i d h = rw (slice_get-get_or fds i d h) refl

pub adds-Some : (fds : List Fd) (s : FinSet nat_cmp) (i : ℕ) (d : Fd) → position (λ f. adds f s) fds ≡ Some i → (i < length fds) × (is_subset (get_or fds i d).left s ≡ true) × (is_subset (get_or fds i d).right s ≡ false)
adds-Some fds s i d found =
    let at : (i < length fds) × (adds (get_or fds i d) s ≡ true) × ((k : ℕ) → k < i → adds (get_or fds k d) s ≡ false) = position-Some (λ f. adds f s) fds i d found in
    let adding : adds (get_or fds i d) s ≡ true = at.1 in
    (at.0, grind (arith, adding), grind (arith, adding))

pub adds-None : (fds : List Fd) (s : FinSet nat_cmp) → position (λ f. adds f s) fds ≡ None → IsClosed fds s
adds-None fds s none k d h left =
    let rest : adds (get_or fds k d) s ≡ false = position-None (λ f. adds f s) fds none k d h in
    grind (arith, rest, left)

-- a step: t is r with the right side of the first dependency that adds to r
module _ (fds : List Fd) (r t : FinSet nat_cmp) (i : ℕ) (d : Fd) (found : position (λ f. adds f r) fds ≡ Some i) (t_is : t ≡ union r (get_or fds i d).right) where
  pub step_grown : is_subset r t ≡ true
  step_grown = rw t_is (subset-union_left r (get_or fds i d).right)

  pub step_least : (s : FinSet nat_cmp) → IsClosed fds s → is_subset r s ≡ true → is_subset t s ≡ true
  step_least s closed within =
      let at : (i < length fds) × (is_subset (get_or fds i d).left r ≡ true) × (is_subset (get_or fds i d).right r ≡ false) = adds-Some fds r i d found in
      rw t_is (union-subset r (get_or fds i d).right s within (closed i d at.0 (subset_trans (get_or fds i d).left r s at.1 within)))

  -- the closed sets over t are those over r
  pub step_closure : (c : FinSet nat_cmp) → IsClosureOf fds t c → IsClosureOf fds r c
  step_closure c is a = (
    λ one s closed within. (is a).0 one s closed (step_least s closed within),
    λ all. (is a).1 (λ s closed within. all s closed (subset_trans r t s step_grown within)),
  )

  pub step_smaller : remaining (λ f. f.right) fds t < remaining (λ f. f.right) fds r
  step_smaller =
      let at : (i < length fds) × (is_subset (get_or fds i d).left r ≡ true) × (is_subset (get_or fds i d).right r ≡ false) = adds-Some fds r i d found in
      remaining_lt (λ f. f.right) fds r t i d step_grown at.0 at.2 (rw t_is (subset-union_right r (get_or fds i d).right))

  -- what derives the rest from t derives it from r after i
  pub step_derived : (rest : List ℕ) → IsDerivation fds t rest → IsDerivation fds r (i ∷ rest)
  step_derived rest derived =
      let at : (i < length fds) × (is_subset (get_or fds i d).left r ≡ true) × (is_subset (get_or fds i d).right r ≡ false) = adds-Some fds r i d found in
      let read : right_side fds i ≡ (get_or fds i d).right = right_side_read fds i d at.0 in
      (found, rw read (rw (← t_is) derived))

-- a derivation leads to the closure
pub derivation_closure : DerivationReachesClosure
derivation_closure fds s [] done = own fds s (adds-None fds s done)
derivation_closure fds s (i ∷ is) (found, derived) =
    let none : Fd = record { left = empty; right = empty } in
    let t : FinSet nat_cmp = union s (right_side fds i) in
    let t_is : t ≡ union s (get_or fds i none).right = ap (union s) (right_side_read fds i none (adds-Some fds s i none found).0) in
    step_closure fds s t i none found t_is (with_right_sides fds t is) (derivation_closure fds t is derived)
