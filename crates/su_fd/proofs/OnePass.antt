-- One pass over the dependencies: what stands before the i-th of them.
use Rattle.std.proofs.Common.{ℕ, ◌+◌, ◌<◌, ◌≤◌, ◌≡◌, ◌⊎◌, inl, inr, true, false, List, length, get_or, IsTrue, arith, refl, sym, ap, ◌∙◌}
use Rattle.std.specs.List.{Any}
use Rattle.std.specs.Ordering.{nat_cmp}
use Rattle.std.specs.FinSet.{FinSet, is_subset, union}
use Rattle.std.proofs.lemmas.List.{get_or_default}
use Rattle.std.proofs.lemmas.Bool.{cases_lt, false≢true}
use Rattle.su_base.proofs.Subsets.{subset_refl, subset_trans, union-subset, subset-union_left, subset-union_right}
use Rattle.su_base.proofs.RemainingSets.{remaining, remaining_lt}
use Rattle.su_fd.specs.Closure.{IsClosed}
use Rattle.su_fd.specs.declared.dependencies.Fd.{Fd}

-- some right side was not within the start and is within the set now
abbrev pub Gains : List Fd → FinSet nat_cmp → FinSet nat_cmp → Type 0
Gains fds start r = Any (λ f. (is_subset f.right start ≡ false) × IsTrue (is_subset f.right r)) fds

-- r is what a pass has made of start before the i-th dependency
pub record IsSwept (fds : List Fd) (start : FinSet nat_cmp) (i : ℕ) (r : FinSet nat_cmp) : Type 0 where
  pub grown : is_subset start r ≡ true
  pub least : (s : FinSet nat_cmp) → IsClosed fds s → is_subset start s ≡ true → is_subset r s ≡ true
  pub settled : (k : ℕ) (d : Fd) → k < i → is_subset (get_or fds k d).left start ≡ true → is_subset (get_or fds k d).right r ≡ true
  pub progress : (is_subset r start ≡ true) ⊎ Gains fds start r

pub swept_start : (fds : List Fd) (start : FinSet nat_cmp) → IsSwept fds start 0 start
swept_start fds start = record {
  grown = subset_refl start;
  least = λ s closed within. within;
  settled = λ k d h left. absurd (omega arith);
  progress = inl (subset_refl start);
}

-- the i-th dependency is f
module _ (fds : List Fd) (start r : FinSet nat_cmp) (i : ℕ) (f : Fd) (before : IsSwept fds start i r) (inside : i < length fds) (is : f ≡ get_or fds i f) where
  read : (k : ℕ) (d : Fd) → k ≡ i → get_or fds k d ≡ f
  read k d e = ap (λ n. get_or fds n d) e ∙ get_or_default fds i d f inside ∙ sym is

  pub swept_skip : is_subset f.left r ≡ false → IsSwept fds start (i + 1) r
  swept_skip out = record {
    grown = before.grown;
    least = before.least;
    settled = λ k d h left. elim (cases_lt k i) [
      | inl lt ↦ before.settled k d lt left
      | inr ge ↦
          let left' : is_subset f.left start ≡ true = ap (λ z. is_subset z.left start) (sym (read k d (omega arith))) ∙ left in
          absurd (false≢true (sym out ∙ subset_trans f.left start r left' before.grown))
    ];
    progress = before.progress;
  }

  pub swept_push : is_subset f.left r ≡ true → (t : FinSet nat_cmp) → t ≡ union r f.right → IsSwept fds start (i + 1) t
  swept_push left t t_is =
      let wider : is_subset r t ≡ true = rw t_is (subset-union_left r f.right) in
      let gained : is_subset f.right t ≡ true = rw t_is (subset-union_right r f.right) in
      record {
        grown = subset_trans start r t before.grown wider;
        least = λ s closed within.
            let so_far : is_subset r s ≡ true = before.least s closed within in
            let here : is_subset (get_or fds i f).right s ≡ true = closed i f inside (rw (← is) (subset_trans f.left r s left so_far)) in
            rw t_is (union-subset r f.right s so_far (ap (λ z. is_subset z.right s) is ∙ here));
        settled = λ k d h old. elim (cases_lt k i) [
          | inl lt ↦ subset_trans _ r t (before.settled k d lt old) wider
          | inr ge ↦ ap (λ z. is_subset z.right t) (read k d (omega arith)) ∙ gained
        ];
        progress = elim (is_subset f.right start) as (λ b. is_subset f.right start ≡ b → (is_subset t start ≡ true) ⊎ Gains fds start t) [
          | false ↦ λ new. inr (i, f, inside, sym is, (new, gained))
          | true ↦ λ old. elim before.progress [
            | inl all ↦ inl (rw t_is (union-subset r f.right start all old))
            | inr g ↦ inr (g.0, g.1, g.2, g.3, (g.4.0, subset_trans g.1.right r t g.4.1 wider))
          ]
        ] refl;
      }

-- after the last of them, a pass that adds nothing shows that the start is closed
pub swept_closed : (fds : List Fd) (start r : FinSet nat_cmp) (i : ℕ) → IsSwept fds start i r → length fds ≤ i → is_subset r start ≡ true → IsClosed fds start
swept_closed fds start r i after end back k d h left = subset_trans _ r start (after.settled k d (omega arith) left) back

-- a pass that adds leaves fewer right sides to add
pub gains_smaller : (fds : List Fd) (start r : FinSet nat_cmp) → is_subset start r ≡ true → Gains fds start r → remaining (λ f. f.right) fds r < remaining (λ f. f.right) fds start
gains_smaller fds start r grown g =
    remaining_lt (λ f. f.right) fds start r g.0 g.1 grown g.2 (ap (λ z. is_subset z.right start) g.3 ∙ g.4.0) (ap (λ z. is_subset z.right r) g.3 ∙ g.4.1)
