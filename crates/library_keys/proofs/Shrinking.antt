-- A superkey while attributes are left out of it: those below a number that are left stand in each part that determines all.
use Rattle.std.proofs.Common.{ℕ, ◌+◌, ◌<◌, IsTrue, List, inl, inr, sym, subst, ◌∙◌, arith}
use Rattle.std.specs.Cmp.{nat_cmp_total}
use Rattle.std.specs.Ordering.{nat_cmp}
use Rattle.std.specs.FinSet.{FinSet, contains, is_subset, difference, contains-difference, insert, empty, members}
use Rattle.std.proofs.lemmas.Bool.{cases_eq, and_parts, false≢true, true_from_ne_false}
use Rattle.std.proofs.lemmas.Bool.Decides.{nat_tests}
use Rattle.su_base.proofs.Subsets.{subset_at, subset_by, subset_refl, subset_trans}
use Rattle.su_fd.specs.Closure.{Determines}
use Rattle.su_fd.specs.declared.dependencies.Fd.{Fd}
use Rattle.library_keys.specs.Keys.{IsKey}

-- the set without the number
abbrev pub without : FinSet nat_cmp → ℕ → FinSet nat_cmp
without s n = difference s (insert empty n)

-- what is left when the attributes below n were tried
pub record IsShrunk (fds : List Fd) (all : FinSet nat_cmp) (n : ℕ) (key : FinSet nat_cmp) : Type 0 where
  pub within : IsTrue (is_subset key all)
  pub determines : Determines fds key all
  pub least : (b : ℕ) (y : FinSet nat_cmp) → b < n → IsTrue (contains key b) → IsTrue (is_subset y key) → Determines fds y all → IsTrue (contains y b)

without_misses : (s : FinSet nat_cmp) (n : ℕ) → IsTrue (contains (without s n) n) → ⊥
without_misses s n one = grind (arith, nat_tests, members, one)

without_within : (s : FinSet nat_cmp) (n : ℕ) → IsTrue (is_subset (without s n) s)
without_within s n = subset_by _ _ (λ q one. (and_parts _ _ (sym (contains-difference nat_cmp_total s (insert empty n) q) ∙ one)).0)

within_without : (s y : FinSet nat_cmp) (n : ℕ) → IsTrue (is_subset y s) → (IsTrue (contains y n) → ⊥) → IsTrue (is_subset y (without s n))
within_without s y n within misses = subset_by _ _ (λ q one. elim (cases_eq q n) [
  | inl is ↦ absurd (misses (subst (λ (k : ℕ). IsTrue (contains y k)) is one))
  | inr other ↦ let there = subset_at y s q within one in grind (arith, nat_tests, members, there, other)
])

determines_more : (fds : List Fd) (x y all : FinSet nat_cmp) → IsTrue (is_subset x y) → Determines fds x all → Determines fds y all
determines_more fds x y all within by a one s closed in_s = by a one s closed (subset_trans x y s within in_s)

pub shrunk_start : (fds : List Fd) (all : FinSet nat_cmp) → IsShrunk fds all 0 all
shrunk_start fds all = record {
  within = subset_refl all;
  determines = λ a one s closed within. subset_at _ _ a within one;
  least = λ b y low one within by. absurd (omega arith);
}

pub shrunk_without : (fds : List Fd) (all key : FinSet nat_cmp) (n : ℕ) → IsShrunk fds all n key → Determines fds (without key n) all → IsShrunk fds all (n + 1) (without key n)
shrunk_without fds all key n before by = record {
  within = subset_trans _ _ _ (without_within key n) before.within;
  determines = by;
  least = λ b y low one within det. elim (cases_eq b n) [
    | inl is ↦ absurd (without_misses key n (subst (λ (k : ℕ). IsTrue (contains (without key n) k)) is one))
    | inr other ↦ before.least b y (omega arith) (subset_at _ _ b (without_within key n) one) (subset_trans _ _ _ within (without_within key n)) det
  ];
}

pub shrunk_with : (fds : List Fd) (all key : FinSet nat_cmp) (n : ℕ) → IsShrunk fds all n key → (Determines fds (without key n) all → ⊥) → IsShrunk fds all (n + 1) key
shrunk_with fds all key n before fails = record {
  within = before.within;
  determines = before.determines;
  least = λ b y low one within det. elim (cases_eq b n) [
    | inl is ↦ subst (λ (k : ℕ). IsTrue (contains y k)) (sym is) (true_from_ne_false (contains y n) (λ not_there. fails (determines_more fds y (without key n) all (within_without key y n within (λ there. false≢true (sym not_there ∙ there))) det)))
    | inr other ↦ before.least b y (omega arith) one within det
  ];
}

pub shrunk_key : (fds : List Fd) (all key : FinSet nat_cmp) (n : ℕ) → IsShrunk fds all n key → ((a : ℕ) → IsTrue (contains all a) → a < n) → IsKey fds all key
shrunk_key fds all key n after below = record {
  within = after.within;
  determines = after.determines;
  least = λ y within det. subset_by _ _ (λ q one. after.least q y (below q (subset_at _ _ q after.within one)) one within det);
}
