-- Lists that are gathered one element at a time, and the constants of terms.
use Rattle.std.proofs.Common.{◌≡◌, ◌↔◌, ◌⊎◌, inl, inr, ⊎_elim, ℕ, zero, suc, ◌+◌, List, [], ◌∷◌, ◌++◌, flat_map, length, get_or, take, Contains, Some, refl, sym, ap, ◌∙◌, subst, add-one, arith}
use Rattle.std.specs.Prelude.{slice_get}
use Rattle.std.proofs.Math.Seq.{take-suc}
use Rattle.std.proofs.lemmas.List.Elements.{Contains-append_left, Contains-append_right, Contains-append_cases, Contains-get_or}
use Rattle.std.proofs.lemmas.Option.{get_or_from_slice_get, slice_get_within}
use Rattle.su_base.specs.declared.values.Value.{Value}
use Rattle.su_base.proofs.Items.{Contains-flat_map, Contains-flat_map_source}
use Rattle.su_tableau.specs.declared.symbols.Sym.{Sym}
use Rattle.su_tableau.specs.declared.symbols.Sym.TheVariants.{Const, Var}
use Rattle.su_tableau.specs.Tableaux.{Tab}
use Rattle.su_steps.specs.declared.results.Term.{Term}
use Rattle.su_compare.specs.Counterexamples.{HasConstant, InTerms}
use Rattle.su_chase.specs.inside.Rows.{constant_of}
use Rattle.su_compare.specs.inside.Settlements.{constants_in, tab_constants, terms_constants}
use Rattle.su_compare.proofs.Settled.{tab_here}

pub push_taken : {X : Type 0} (xs : List X) (i : ℕ) (x : X) (ys new : List X) → slice_get xs i ≡ Some x → new ≡ ys ++ x ∷ [] → ys ≡ take i xs → new ≡ take (i + 1) xs
push_taken xs i x ys new at is before =
    is ∙ ap (λ zs. zs ++ x ∷ []) before ∙ ap (λ y. take i xs ++ y ∷ []) (sym (get_or_from_slice_get xs i x x at)) ∙ sym (take-suc xs i x (slice_get_within xs i x at)) ∙ ap (λ n. take n xs) (sym (add-one i))

-- ---- members of joined lists

-- ---- constants

in_symbols : (symbols : List Sym) (c : Value) → Contains symbols (Const c) → Contains (constants_in symbols) c
in_symbols symbols c has = Contains-flat_map constant_of symbols (Const c) c has (0, omega arith, refl)

of_constant : (x : Sym) (c : Value) → Contains (constant_of x) c → x ≡ Const c
of_constant (Const v) c (zero, low, is) = ap Const is
of_constant (Const v) c (suc k, low, is) = absurd (omega arith)
of_constant (Var j) c (k, low, is) = absurd (omega arith)

of_symbols : (symbols : List Sym) (c : Value) → Contains (constants_in symbols) c → Contains symbols (Const c)
of_symbols symbols c has = let r = Contains-flat_map_source constant_of symbols c has in subst (Contains symbols) (of_constant r.0 c r.2) r.1

in_tableau : (t : Tab) (c : Value) → HasConstant t c → Contains (tab_constants t) c
in_tableau t c has =
    ⊎_elim
    (λ (rows : (row : List Sym) × Contains t.rows row × Contains row (Const c)).
    Contains-append_right (constants_in t.head) (flat_map constants_in t.rows) c (Contains-flat_map constants_in t.rows rows.0 c rows.1 (in_symbols rows.0 c rows.2)))
    (λ (head : Contains t.head (Const c)). Contains-append_left (constants_in t.head) (flat_map constants_in t.rows) c (in_symbols t.head c head))
    has

of_tableau : (t : Tab) (c : Value) → Contains (tab_constants t) c → HasConstant t c
of_tableau t c has =
    ⊎_elim
    (λ (head : Contains (constants_in t.head) c). inr (of_symbols t.head c head))
    (λ (rows : Contains (flat_map constants_in t.rows) c). let r = Contains-flat_map_source constants_in t.rows c rows in inl (r.0, r.1, of_symbols r.0 c r.2))
    (Contains-append_cases (constants_in t.head) (flat_map constants_in t.rows) c has)

pub in_terms : (terms : List Term) (c : Value) → InTerms terms c → Contains (terms_constants terms) c
in_terms terms c (i, low, has) =
    let f = λ (t : Term). tab_constants t.tableau in
    elim terms as (λ ts. ts ≡ terms → Contains (terms_constants terms) c) [
      | [] ↦ λ e. absurd (let n = ap length e in omega arith)
      | x ∷ xs ↦ λ e.
          let t = get_or terms i x in
          Contains-flat_map f terms t c (Contains-get_or terms i x low) (in_tableau t.tableau c (subst (λ t. HasConstant t c) (tab_here terms i x low) has))
    ] refl

pub of_terms : (terms : List Term) (c : Value) → Contains (terms_constants terms) c → InTerms terms c
of_terms terms c has =
    let f = λ (t : Term). tab_constants t.tableau in
    let r = Contains-flat_map_source f terms c has in
    let k = r.1 in
    (k.0, k.1, subst (λ t. HasConstant t c) (sym (tab_here terms k.0 r.0 k.1 ∙ ap (λ t. t.tableau) k.2)) (of_tableau r.0.tableau c r.2))

-- the constants of the terms of two queries, each once
pub of_both : (first second : List Term) (all kept : List Value) (c : Value) → all ≡ terms_constants first ++ terms_constants second → Contains kept c ↔ Contains all c → Contains kept c ↔ (InTerms first c ⊎ InTerms second c)
of_both first second all kept c is same = (
  λ has.
      ⊎_elim (λ (a : Contains (terms_constants first) c). inl (of_terms first c a)) (λ (b : Contains (terms_constants second) c). inr (of_terms second c b))
      (Contains-append_cases (terms_constants first) (terms_constants second) c (subst (λ xs. Contains xs c) is (same.0 has))),
  λ has.
      same.1 (subst (λ xs. Contains xs c) (sym is)
      (⊎_elim (λ (a : InTerms first c). Contains-append_left (terms_constants first) (terms_constants second) c (in_terms first c a))
      (λ (b : InTerms second c). Contains-append_right (terms_constants first) (terms_constants second) c (in_terms second c b)) has)),
)
