-- Sets that meet, and steps of passes over sets.
use Rattle.std.proofs.Common.{◌≡◌, ◌↔◌, ◌<◌, ◌+◌, ℕ, List, [], length, get_or, Option, None, Some, sym, ap, subst, ◌∙◌, true≢false, Contains, ⊎_elim, arith}
use Rattle.std.specs.Ordering.{nat_cmp}
use Rattle.std.specs.Cmp.{nat_cmp_total}
use Rattle.std.specs.FinSet.{FinSet, contains, empty, intersection, insert, members, contains-empty, same_set, nat_cmp-IsAntisymmetric}
use Rattle.std.proofs.lemmas.Bool.Decides.{nat_tests}
use Rattle.std.proofs.lemmas.List.{get_or-map}
use Rattle.std.proofs.lemmas.Bool.{cases_eq}
use Rattle.su_tableau.specs.declared.symbols.Sym.{Sym}
use Rattle.su_tableau.specs.declared.symbols.Sym.TheVariants.{Var}
use Rattle.su_reduce.specs.declared.edges.Edge.{Edge}
use Rattle.su_reduce.specs.Ears.{cells_of}
use Rattle.su_reduce.specs.inside.Partners.{In, Touches, IsParentBy}

pub apart : (s t : FinSet nat_cmp) → ((j : ℕ) → In t j → In s j → ⊥) → intersection s t ≡ empty
apart s t none = same_set nat_cmp_total nat_cmp-IsAntisymmetric _ _ (λ q. grind (arith, nat_tests, members, none q))

pub none_common : (s t : FinSet nat_cmp) (j : ℕ) → intersection s t ≡ empty → In t j → In s j → ⊥
none_common s t j gone in_t in_s =
    let same : contains (intersection s t) j ≡ contains empty j = ap (λ r. contains r j) gone in
    grind (arith, nat_tests, members, in_t, in_s, same)

pub empty_in : (s : FinSet nat_cmp) → s ≡ empty → (i : ℕ) → In s i → ⊥
empty_in s is i m = true≢false (sym (subst (λ (t : FinSet nat_cmp). In t i) is m) ∙ contains-empty nat_cmp i)

-- the numbers below n, and n
pub below_next : (s t : FinSet nat_cmp) (n : ℕ) → t ≡ insert s n → ((i : ℕ) → In s i ↔ (i < n)) → (i : ℕ) → In t i ↔ (i < n + 1)
below_next s t n is before i = subst (λ (u : FinSet nat_cmp). In u i ↔ (i < n + 1)) (sym is)
    (⊎_elim
    (λ (e : i ≡ n). (λ yes. omega (arith, e), λ h. grind (arith, nat_tests, members, e)))
    (λ (ne : i ≡ n → ⊥).
    let same : contains (insert s n) i ≡ contains s i = grind (arith, nat_tests, members, ne) in (
      λ yes. let l = (before i).0 (sym same ∙ yes) in omega (arith, l),
      λ l. same ∙ (before i).1 (omega (arith, l, ne)),
    ))
    (cases_eq i n))

-- the cells of the edge at place j
pub cells_read : (edges : List Edge) (j : ℕ) (e : Edge) (cells : List Sym) → j < length edges → e ≡ get_or edges j e → cells ≡ e.cells → get_or (cells_of edges) j [] ≡ cells
cells_read edges j e cells l is same = get_or-map (λ (e : Edge). e.cells) edges j e [] l ∙ ap (λ (e : Edge). e.cells) (sym is) ∙ sym same

-- what `is_among` says
abbrev pub Among : List Sym → Sym → Type 0
Among cells x = (k : ℕ) × (x ≡ Var k) × Contains cells (Var k)

pub touches : (edges : List (List Sym)) (j : ℕ) (x : Sym) (cells : List Sym) → get_or edges j [] ≡ cells → Among cells x → Touches edges x j
touches edges j x cells at a = (a.0, a.1, subst (λ (l : List Sym). Contains l (Var a.0)) (sym at) a.2)

pub among : (edges : List (List Sym)) (j : ℕ) (x : Sym) (cells : List Sym) → get_or edges j [] ≡ cells → Touches edges x j → Among cells x
among edges j x cells at t = (t.0, t.1, subst (λ (l : List Sym). Contains l (Var t.0)) at t.2)

pub no_parent : (sets : List (FinSet nat_cmp)) (others : FinSet nat_cmp) → (IsParentBy sets others None → ⊥) → ((i : ℕ) → IsParentBy sets others (Some i) → ⊥) → (parent : Option ℕ) → ¬ IsParentBy sets others parent
no_parent sets others none some None = none
no_parent sets others none some (Some i) = some i
