-- The terms of a query are valid tableaux: each variable of a head stands in the row of an object that has its attribute.
use Rattle.std.proofs.Common.{◌≡◌, ⊎_elim, List, [], ◌∷◌, get_or, sym, subst, None}
use Rattle.std.specs.Prelude.{All}
use Rattle.std.specs.List.{AllByRecursion}
use Rattle.std.specs.Ordering.{nat_cmp}
use Rattle.std.specs.FinSet.{FinSet}
use Rattle.std.proofs.lemmas.List.Elements.{All-from_recursion}
use Rattle.su_base.proofs.Items.{AllByRecursion-members}
use Rattle.su_where.specs.Disjunct.{disjuncts_of}
use Rattle.su_tableau.specs.Tableaux.{IsValid}
use Rattle.su_schema.specs.SchemaValue.{SchemaValue}
use Rattle.su_schema.specs.Valid as schemas
use Rattle.su_query.specs.declared.resolving.Resolved.{Resolved}
use Rattle.su_query.specs.Ranges.{IsResolved}
use Rattle.su_steps.specs.declared.results.Term.{Term}
use Rattle.su_steps.specs.Choices.{origins_of}
use Rattle.su_steps.specs.Cases.{Case, comparisons_of, Gives, IsOutOf}
use Rattle.su_steps.specs.Terms.{cases, AreTerms}
use Rattle.su_steps.proofs.ResolvedQueries.{within, literals_fit}
use Rattle.su_steps.proofs.Cases.{shown_rows}
use Rattle.su_steps.proofs.Tabled.{outputs_stand, sides_stand}
use Rattle.su_steps.proofs.Union.{IsCase, of_cases}
use Rattle.su_steps.proofs.Valid.{tableau_valid}
use Rattle.su_steps.proofs.Outs.{AreInTurn, terms_of}

module _ (schema : SchemaValue) (maximal : List (FinSet nat_cmp)) (q : Resolved) (valid : schemas.IsValid schema) (resolved : IsResolved schema q) where
  abbrev HasValid : Term → Type 0
  HasValid t = IsValid t.tableau

  case_valid : (x : Case) → IsCase schema maximal q resolved (within schema valid) x → (t : Term) → Gives schema maximal q x t → HasValid t
  case_valid x is t gives =
      let k = gives.tableau in
      let os = origins_of schema maximal x.choice in
      let ls = get_or (disjuncts_of q.cond) x.disjunct [] in
      let fits = literals_fit schema q resolved x.disjunct is.disjunct_in in
      let shown = shown_rows schema maximal q resolved x.choice is.is_choice in
      subst IsValid (sym k.is)
      (tableau_valid schema q os (comparisons_of schema q x.disjunct) k.name k.naming (within schema valid) (outputs_stand schema q resolved ls fits os shown) (sides_stand schema q resolved ls fits os shown))

  valid_of : (cs : List Case) (ts : List Term) → AllByRecursion (IsCase schema maximal q resolved (within schema valid)) cs → AreInTurn schema maximal q cs ts → AllByRecursion HasValid ts
  valid_of [] ts are terms = subst (AllByRecursion HasValid) (sym terms) tt
  valid_of (x ∷ xs) ts are terms =
      ⊎_elim
      (λ (none : IsOutOf schema maximal q x None × AreInTurn schema maximal q xs ts). valid_of xs ts are.1 none.1)
      (λ (some : (t : Term) × (rest : List Term) × (ts ≡ t ∷ rest) × Gives schema maximal q x t × AreInTurn schema maximal q xs rest).
      subst (AllByRecursion HasValid) (sym some.2) (case_valid x are.0 some.0 some.3, valid_of xs some.1 are.1 some.4))
      terms

  pub all_valid : (ts : List Term) → AreTerms schema maximal q ts → All HasValid ts
  all_valid ts terms =
      All-from_recursion HasValid ts
      (valid_of (cases schema maximal q) ts (AllByRecursion-members (IsCase schema maximal q resolved (within schema valid)) (cases schema maximal q) (of_cases schema maximal q resolved (within schema valid))) (terms_of schema maximal q ts terms))
