-- What a key has: each needed attribute, and of the others free ones alone.
use Rattle.std.proofs.Common.{ℕ, ◌≡◌, ◌↔◌, IsTrue, List, true, false, inl, inr, sym, ap, subst, ◌∙◌, arith}
use Rattle.std.specs.Cmp.{nat_cmp_total}
use Rattle.std.specs.Ordering.{nat_cmp}
use Rattle.std.specs.FinSet.{FinSet, contains, is_subset, union, difference, contains-difference, contains-insert, insert, empty, members}
use Rattle.std.proofs.lemmas.Bool.{cases_eq, and_parts, false≢true, true_from_ne_false, false_from_ne_true}
use Rattle.std.proofs.lemmas.Bool.Decides.{nat_tests}
use Rattle.su_base.proofs.Subsets.{subset_at, subset_by, subset_trans, subset_antisymm}
use Rattle.su_reduce.proofs.Rounds.{in_without}
use Rattle.su_fd.specs.Closure.{InClosure, IsClosureOf, Determines}
use Rattle.su_fd.specs.declared.dependencies.Fd.{Fd}
use Rattle.su_advise.specs.Keys.{IsKey, AreNeeded}

-- the set without the attribute
abbrev pub less : FinSet nat_cmp → ℕ → FinSet nat_cmp
less s n = difference s (insert empty n)

pub less_misses : (s : FinSet nat_cmp) (n : ℕ) → IsTrue (contains (less s n) n) → ⊥
less_misses s n one = grind (arith, nat_tests, members, one)

pub less_within : (s : FinSet nat_cmp) (n : ℕ) → IsTrue (is_subset (less s n) s)
less_within s n = subset_by _ _ (λ q one. (and_parts _ _ (sym (contains-difference nat_cmp_total s (insert empty n) q) ∙ one)).0)

pub within_less : (s y : FinSet nat_cmp) (n : ℕ) → IsTrue (is_subset y s) → (IsTrue (contains y n) → ⊥) → IsTrue (is_subset y (less s n))
within_less s y n within misses = subset_by _ _ (λ q one. elim (cases_eq q n) [
  | inl is ↦ absurd (misses (subst (λ (k : ℕ). IsTrue (contains y k)) is one))
  | inr other ↦ let there = subset_at y s q within one in grind (arith, nat_tests, members, there, other)
])

-- a member that was left out comes back
pub put_back : (s : FinSet nat_cmp) (n : ℕ) → IsTrue (contains s n) → insert (less s n) n ≡ s
put_back s n one = subset_antisymm _ _
    (subset_by _ _ (λ q there. elim (cases_eq q n) [
      | inl is ↦ subst (λ (k : ℕ). IsTrue (contains s k)) (sym is) one
      | inr other ↦ subset_at (less s n) s q (less_within s n) (grind (arith, nat_tests, contains-insert nat_cmp_total (less s n) n q, other, there))
    ]))
    (subset_by _ _ (λ q own. elim (cases_eq q n) [
      | inl is ↦ grind (arith, nat_tests, contains-insert nat_cmp_total (less s n) n q, is)
      | inr other ↦ let kept : contains (less s n) q ≡ true = (in_without s n q).1 (own, other) in grind (arith, nat_tests, contains-insert nat_cmp_total (less s n) n q, kept)
    ]))

-- what the needed attributes don't determine
pub rest_is : (fds : List Fd) (all needed closed free : FinSet nat_cmp) → free ≡ difference all closed → IsClosureOf fds needed closed → (a : ℕ) → IsTrue (contains free a) ↔ IsTrue (contains all a) × (InClosure fds needed a → ⊥)
rest_is fds all needed closed free is closed_is a = (
  λ one.
      let parts = and_parts _ _ (sym (contains-difference nat_cmp_total all closed a) ∙ ap (λ (s : FinSet nat_cmp). contains s a) (sym is) ∙ one) in
      (parts.0, λ by. let there = (closed_is a).1 by in false≢true (let out = parts.1 in grind (arith, out, there))),
  λ w.
      let inside = w.0 in
      let out : contains closed a ≡ false = false_from_ne_true (contains closed a) (λ there. w.1 ((closed_is a).0 there)) in
      ap (λ (s : FinSet nat_cmp). contains s a) is ∙ grind (arith, members, inside, out),
)

-- more attributes determine more
pub determines_more : (fds : List Fd) (x y all : FinSet nat_cmp) → IsTrue (is_subset x y) → Determines fds x all → Determines fds y all
determines_more fds x y all within by a one s closed in_s = by a one s closed (subset_trans x y s within in_s)

in_closure_more : (fds : List Fd) (x y : FinSet nat_cmp) (a : ℕ) → IsTrue (is_subset x y) → InClosure fds x a → InClosure fds y a
in_closure_more fds x y a within by s closed in_s = by s closed (subset_trans x y s within in_s)

-- ---- keys are the sets of which no attribute can be left out

module _ (fds : List Fd) (all x : FinSet nat_cmp) where
  pub key_by : IsTrue (is_subset x all) → Determines fds x all → ((a : ℕ) → IsTrue (contains x a) → Determines fds (less x a) all → ⊥) → IsKey fds all x
  key_by within by tight = record {
    within = within;
    determines = by;
    least = λ y inside det. subset_by _ _ (λ q one. true_from_ne_false (contains y q) (λ not_there.
        tight q one (determines_more fds y (less x q) all (within_less x y q inside (λ there. false≢true (sym not_there ∙ there))) det)));
  }

  pub key_tight : IsKey fds all x → (a : ℕ) → IsTrue (contains x a) → Determines fds (less x a) all → ⊥
  key_tight key a one det = less_misses x a (subset_at x (less x a) a (key.least (less x a) (less_within x a) det) one)

-- ---- what a key has

module _ (fds : List Fd) (all needed free : FinSet nat_cmp) (needed_are : AreNeeded fds all needed) (free_are : (a : ℕ) → IsTrue (contains free a) ↔ IsTrue (contains all a) × (InClosure fds needed a → ⊥)) where
  pub key_has_needed : (x : FinSet nat_cmp) → IsKey fds all x → IsTrue (is_subset needed x)
  key_has_needed x key = subset_by _ _ (λ a one. true_from_ne_false (contains x a) (λ out.
      let is = (needed_are a).0 one in
      let inside : IsTrue (is_subset x (less all a)) = within_less all x a key.within (λ there. false≢true (sym out ∙ there)) in
      is.1 (in_closure_more fds x (less all a) a inside (key.determines a is.0))))

  -- an attribute that the needed ones determine, and that isn't one of them, could be left out
  pub key_rest_free : (x : FinSet nat_cmp) → IsKey fds all x → IsTrue (is_subset (difference x needed) free)
  key_rest_free x key = subset_by _ _ (λ a one.
      let parts = and_parts _ _ (sym (contains-difference nat_cmp_total x needed a) ∙ one) in
      let in_x : IsTrue (contains x a) = parts.0 in
      let out : contains needed a ≡ false = grind (arith, parts.1) in
      (free_are a).1 (
        subset_at x all a key.within in_x,
        λ by.
            let inside : IsTrue (is_subset needed (less x a)) = within_less x needed a (key_has_needed x key) (λ there. false≢true (sym out ∙ there)) in
            key_tight fds all x key a in_x (λ b wanted s closed over.
            key.determines b wanted s closed (subset_by _ _ (λ q in_q. elim (cases_eq q a) [
              | inl is ↦ subst (λ (k : ℕ). IsTrue (contains s k)) (sym is) (by s closed (subset_trans needed (less x a) s inside over))
              | inr other ↦ subset_at (less x a) s q over (let there = in_q in grind (arith, nat_tests, members, there, other))
            ]))),
      ))

  -- no free attribute is needed
  pub free_apart : (a : ℕ) → IsTrue (contains free a) → IsTrue (contains needed a) → ⊥
  free_apart a one two = ((free_are a).0 one).1 (λ s closed over. subset_at needed s a over two)

-- ---- sets that are put together

pub together : (x needed : FinSet nat_cmp) → IsTrue (is_subset needed x) → union needed (difference x needed) ≡ x
together x needed within = subset_antisymm _ _
    (subset_by _ _ (λ q one. let in_needed = subset_at needed x q within in grind (arith, members, one, in_needed)))
    (subset_by _ _ (λ q one. grind (arith, members, one)))

pub taken_apart : (needed extra : FinSet nat_cmp) → ((a : ℕ) → IsTrue (contains extra a) → IsTrue (contains needed a) → ⊥) → difference (union needed extra) needed ≡ extra
taken_apart needed extra apart = subset_antisymm _ _
    (subset_by _ _ (λ q one. grind (arith, members, one)))
    (subset_by _ _ (λ q one. let out : contains needed q ≡ false = false_from_ne_true (contains needed q) (apart q one) in grind (arith, members, one, out)))
