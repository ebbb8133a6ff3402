-- When two sets hang together, and when an object is adjoinable.
use Rattle.std.proofs.Common.{ℕ, ◌≡◌, Bool, true, false, not, List, [], ◌∷◌, ◌↔◌, IsTrue, sym, ap, refl, ◌∙◌, subst}
use Rattle.std.specs.Ordering.{nat_cmp}
use Rattle.std.specs.FinSet.{FinSet, contains, insert, union, intersection, is_subset, empty, contains-empty, members}
use Rattle.std.proofs.Common.{arith}
use Rattle.std.proofs.lemmas.Bool.{false≢true}
use Rattle.su_base.proofs.Subsets.{subset_at, subset_by, subset_refl, subset_antisymm, subset-union_left}
use Rattle.su_fd.specs.declared.Fd.{Fd}
use Rattle.su_fd.specs.Closure.{IsClosureOf}
use Rattle.su_maxobj.specs.Apart.{shares, IsChain, Apart}
use Rattle.su_base.specs.Sets.{set_at}
use Rattle.su_maxobj.specs.AdjoinableObjects.{IsAttributesOf, HangTogether, Adjoinable}
use Rattle.su_maxobj.proofs.Members.{same_by}
use Rattle.su_maxobj.proofs.Spread.{shares_more}

sharing : (s t : FinSet nat_cmp) → ((intersection s t ≡ empty) → ⊥) → shares empty s t ≡ true
sharing s t some =
    elim (is_subset (intersection s t) empty) as (λ b. is_subset (intersection s t) empty ≡ b → not b ≡ true) [
      | true ↦ λ all. absurd (some (subset_antisymm _ _ all (subset_by empty _ (λ q h. absurd (false≢true (sym (contains-empty nat_cmp q) ∙ h))))))
      | false ↦ λ _. refl
    ] refl

pub not_sharing : (fds : List Fd) (objects : List (FinSet nat_cmp)) (s t : FinSet nat_cmp) → intersection s t ≡ empty → ¬ HangTogether fds objects s t
not_sharing fds objects s t e h =
    let none : is_subset (intersection s t) empty ≡ true = rw e (subset_refl empty) in
    false≢true (ap not (sym none) ∙ h.shared)

-- the test of being apart decides, where something is shared
pub hang_by : (fds : List Fd) (objects : List (FinSet nat_cmp)) (s t m x : FinSet nat_cmp) → m ≡ intersection s t → IsClosureOf fds m x → ((m ≡ empty) → ⊥)
    → (r : Bool) → (IsTrue r ↔ Apart objects x s t) → IsTrue r ↔ HangTogether fds objects s t
hang_by fds objects s t m x m_is x_is some r r_is =
    let x_at : IsClosureOf fds (intersection s t) x = rw (← m_is) x_is in (
      λ one. record { shared = sharing s t (λ e. some (m_is ∙ e)); closed = x; closed_is = x_at; apart = r_is.0 one },
      λ h. r_is.1 (subst (λ z. Apart objects z s t) (same_by _ h.closed x h.closed_is x_at) h.apart),
    )

-- being adjoinable, where the attributes of the members are known
pub joins_by : (fds : List Fd) (objects : List (FinSet nat_cmp)) (have s t : FinSet nat_cmp) (o : ℕ) → IsAttributesOf objects have s → set_at objects o ≡ t → contains have o ≡ false
    → (r : Bool) → (IsTrue r ↔ HangTogether fds objects s t) → IsTrue r ↔ Adjoinable fds objects have o
joins_by fds objects have s t o s_is t_is out r r_is = (
  λ one. record { outside = λ in'. false≢true (sym out ∙ in'); attributes = s; attributes_is = s_is; together = rw t_is (r_is.0 one) },
  λ adj. r_is.1 (subst (λ z. HangTogether fds objects s z) t_is (subst (λ z. HangTogether fds objects z (set_at objects o)) (same_by _ adj.attributes s adj.attributes_is s_is) adj.together)),
)

chain_more : (x s t q : FinSet nat_cmp) (os : List (FinSet nat_cmp)) → is_subset s t ≡ true → IsChain x s q os → IsChain x t q os
chain_more x s t q [] within c = shares_more x s t q within c
chain_more x s t q (o ∷ os) within c = (shares_more x s t o within c.0, c.1)

-- what hangs together with more, and shares no more with it, hangs together with less
hang_less : (fds : List Fd) (objects : List (FinSet nat_cmp)) (s t q : FinSet nat_cmp) → is_subset s t ≡ true → intersection s q ≡ intersection t q → HangTogether fds objects t q → HangTogether fds objects s q
hang_less fds objects s t q within same h = record {
  shared = rw same h.shared;
  closed = h.closed;
  closed_is = rw same h.closed_is;
  apart = λ os some all chain. h.apart os some all (chain_more h.closed s t q os within chain);
}

-- what joins with d shares nothing new with q
same_shared : (s d q : FinSet nat_cmp) → is_subset (intersection q d) s ≡ true → intersection s q ≡ intersection (union s d) q
same_shared s d q unmoved =
    subset_antisymm _ _ (subset_by _ _ (λ a one. grind (arith, members, one)))
    (subset_by _ _ (λ a one.
    let in_q : contains q a ≡ true = grind (arith, members, one) in
    elim (contains d a) as (λ b. contains d a ≡ b → contains (intersection s q) a ≡ true) [
      | true ↦ λ in_d.
          let both : contains (intersection q d) a ≡ true = grind (arith, members, in_q, in_d) in
          let in_s : contains s a ≡ true = subset_at _ s a unmoved both in
          grind (arith, members, in_s, in_q)
      | false ↦ λ out. grind (arith, members, one, out)
    ] refl))

-- what isn't adjoinable isn't so either after another has joined that shares nothing new with it
pub still_not : (fds : List Fd) (objects : List (FinSet nat_cmp)) (have more s t d : FinSet nat_cmp) (o r : ℕ) → IsAttributesOf objects have s → IsAttributesOf objects more t
    → more ≡ insert have o → t ≡ union s d → is_subset (intersection (set_at objects r) d) s ≡ true → ¬ Adjoinable fds objects have r → ¬ Adjoinable fds objects more r
still_not fds objects have more s t d o r s_is t_is more_is t_eq unmoved never adj =
    let q : FinSet nat_cmp = set_at objects r in
    let same_t : adj.attributes ≡ t = same_by _ adj.attributes t adj.attributes_is t_is in
    let same : intersection s q ≡ intersection t q = rw t_eq (same_shared s d q unmoved) in
    never
    (record {
      outside = λ in'. adj.outside (rw more_is (grind (arith, members, in')));
      attributes = s;
      attributes_is = s_is;
      together = hang_less fds objects s t q (rw t_eq (subset-union_left s d)) same (subst (λ z. HangTogether fds objects z q) same_t adj.together);
    })
