-- A query has one list of terms, or one refusal.
use Rattle.std.proofs.Common.{◌≡◌, ◌≢◌, ◌≤◌, Bool, true, false, List, [], ◌∷◌, refl, ap, sym, ◌∙◌, subst, inl, inr, arith}
use Rattle.std.specs.Ordering.{nat_cmp}
use Rattle.std.specs.FinSet.{FinSet}
use Rattle.std.specs.Bool.{Decides}
use Rattle.su_base.specs.declared.values.Value.{Value}
use Rattle.su_base.specs.contracts.values.ValuePartialEq.TheImpl.{ghosts}
use Rattle.su_base.proofs.Same.{value_eq-Decides}
use Rattle.su_tableau.specs.declared.symbols.Sym.{Sym}
use Rattle.su_tableau.specs.declared.symbols.Sym.TheVariants.{Const, Var}
use Rattle.su_tableau.specs.Tableaux.{Tab}
use Rattle.su_schema.specs.SchemaValue.{SchemaValue}
use Rattle.su_query.specs.declared.resolving.Resolved.{Resolved}
use Rattle.su_steps.specs.declared.results.Origin.{Origin}
use Rattle.su_steps.specs.declared.results.Term.{Term}
use Rattle.su_steps.specs.PairSymbols.{SymbolComparison}
use Rattle.su_classes.specs.ClassNames.{InClass, IsNaming}
use Rattle.su_steps.specs.Classes.{IsClosedForCase}
use Rattle.su_steps.specs.CaseTableaux.{tableau_of}
use Rattle.su_steps.specs.Evaluated.{EvaluatesFalse}
use Rattle.su_steps.specs.Cases.{HaveNone, HaveTableau, Case, Gives}
use Rattle.su_steps.specs.Terms.{cases}
use Rattle.su_once.specs.Terms.{OneNaming, OneListOfTerms}
use Rattle.su_steps.proofs.Outs.{AreInTurn, terms_of}

both_ways : (a b : Value) (e : Bool) → Decides e (a ≡ b) → ((a ≢ b) → ⊥) → a ≡ b
both_ways a b true d not_not = d.0 refl
both_ways a b false d not_not = absurd (not_not (λ same. let no : false ≡ true = d.1 same in cc))

same_value : (a b : Value) → ((a ≢ b) → ⊥) → a ≡ b
same_value a b not_not = both_ways a b (ghosts.eq a b) (value_eq-Decides a b) not_not

module _ (schema : SchemaValue) (os : List Origin) (d : List SymbolComparison) where
  abbrev OneConstant : Type 0
  OneConstant = ¬ ((a : Value) × (b : Value) × (a ≢ b) × InClass (IsClosedForCase schema os d) (Const a) (Const b))

  module _ (one : OneConstant) (name other : Sym → Sym) (h : IsNaming (IsClosedForCase schema os d) name) (k : IsNaming (IsClosedForCase schema os d) other) (x : Sym) where
    named_by : (u v : Sym) → name x ≡ u → other x ≡ v → u ≡ v
    named_by (Const a) (Const b) e f =
        ap Const (same_value a b (λ differ. one (a, b, differ, λ label closed. ap label (sym e) ∙ sym (h.member x label closed) ∙ k.member x label closed ∙ ap label f)))
    named_by (Const a) (Var j) e f = absurd (k.least x j f (Const a) (subst (InClass (IsClosedForCase schema os d) x) e (h.member x)))
    named_by (Var i) (Const b) e f = absurd (h.least x i e (Const b) (subst (InClass (IsClosedForCase schema os d) x) f (k.member x)))
    named_by (Var i) (Var j) e f =
        let upto : i ≤ j = h.least x i e (Var j) (subst (InClass (IsClosedForCase schema os d) x) f (k.member x)) in
        let from : j ≤ i = k.least x j f (Var i) (subst (InClass (IsClosedForCase schema os d) x) e (h.member x)) in
        let same : i ≡ j = omega (arith, upto, from) in
        ap Var same

  one_naming : OneConstant → (name other : Sym → Sym) → IsNaming (IsClosedForCase schema os d) name → IsNaming (IsClosedForCase schema os d) other → name ≡ other
  one_naming one name other h k = λ i x. named_by one name other h k x (name x) (other x) refl refl i

  not_both : (q : Resolved) (t : Tab) → HaveNone schema os d → HaveTableau schema q os d t → ⊥
  not_both q t none some = elim none.contradictory [
    | inl constants ↦ some.consistent (inl constants)
    | inr (c, there, fails) ↦
        let same = one_naming (λ constants. some.consistent (inl constants)) none.name some.name none.naming some.naming in
        some.consistent (inr (c, there, subst (λ (name : Sym → Sym). EvaluatesFalse name c) same fails))
  ]

  one_tableau : (q : Resolved) (t u : Tab) → HaveTableau schema q os d t → HaveTableau schema q os d u → t ≡ u
  one_tableau q t u x y =
      let same = one_naming (λ constants. x.consistent (inl constants)) x.name y.name x.naming y.naming in
      x.is ∙ ap (λ (name : Sym → Sym). tableau_of schema q name os d) same ∙ sym y.is

pub one_name : OneNaming
one_name schema os d name other one h k x = named_by schema os d one name other h k x (name x) (other x) refl refl

one_term : (schema : SchemaValue) (maximal : List (FinSet nat_cmp)) (q : Resolved) (case : Case) (t u : Term) → Gives schema maximal q case t → Gives schema maximal q case u → t ≡ u
one_term schema maximal q case t u x y =
    let disjunct = x.disjunct ∙ sym y.disjunct in
    let choice = x.choice ∙ sym y.choice in
    let origins = x.origins ∙ sym y.origins in
    let tableau = one_tableau schema _ _ q t.tableau u.tableau x.tableau y.tableau in
    λ i. record { disjunct = disjunct i; choice = choice i; origins = origins i; tableau = tableau i }

one_list : (schema : SchemaValue) (maximal : List (FinSet nat_cmp)) (q : Resolved) (cs : List Case) (ts us : List Term) → AreInTurn schema maximal q cs ts → AreInTurn schema maximal q cs us → ts ≡ us
one_list schema maximal q [] ts us a b = a ∙ sym b
one_list schema maximal q (c ∷ cs) ts us (inl (none, a)) (inl (also, b)) = one_list schema maximal q cs ts us a b
one_list schema maximal q (c ∷ cs) ts us (inl (none, a)) (inr (u, later, is, gives, b)) = absurd (not_both schema _ _ q u.tableau none gives.tableau)
one_list schema maximal q (c ∷ cs) ts us (inr (t, later, is, gives, a)) (inl (none, b)) = absurd (not_both schema _ _ q t.tableau none gives.tableau)
one_list schema maximal q (c ∷ cs) ts us (inr (t, later, is, gives, a)) (inr (u, after, same, makes, b)) =
    let first = one_term schema maximal q c t u gives makes in
    let rest = one_list schema maximal q cs later after a b in
    is ∙ (λ i. first i ∷ rest i) ∙ sym same

pub one_list_of_terms : OneListOfTerms
one_list_of_terms schema maximal q ts us a b = one_list schema maximal q (cases schema maximal q) ts us (terms_of schema maximal q ts a) (terms_of schema maximal q us b)
