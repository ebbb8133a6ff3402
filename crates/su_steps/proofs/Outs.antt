-- The terms of a query, case by case.
use Rattle.std.proofs.Common.{◌≡◌, ◌⊎◌, inl, inr, List, [], ◌∷◌, Option, Some, None, refl, sym, subst}
use Rattle.std.specs.List.{filter_map, AllZip}
use Rattle.std.specs.Ordering.{nat_cmp}
use Rattle.std.specs.FinSet.{FinSet}
use Rattle.su_schema.specs.SchemaValue.{SchemaValue}
use Rattle.su_query.specs.declared.resolving.Resolved.{Resolved}
use Rattle.su_steps.specs.declared.results.Term.{Term}
use Rattle.su_steps.specs.Cases.{Case, Gives, IsOutOf}
use Rattle.su_steps.specs.Terms.{cases, AreTerms}

-- each case in turn gives no term, or the next one
abbrev pub AreInTurn : SchemaValue → List (FinSet nat_cmp) → Resolved → List Case → List Term → Type 0
AreInTurn schema maximal q [] ts = ts ≡ []
AreInTurn schema maximal q (case ∷ rest) ts = (IsOutOf schema maximal q case None × AreInTurn schema maximal q rest ts)
    ⊎ ((t : Term) × (later : List Term) × (ts ≡ t ∷ later) × Gives schema maximal q case t × AreInTurn schema maximal q rest later)

module _ (schema : SchemaValue) (maximal : List (FinSet nat_cmp)) (q : Resolved) where
  of_outs : (cs : List Case) (outs : List (Option Term)) → AllZip (IsOutOf schema maximal q) cs outs → AreInTurn schema maximal q cs (filter_map (λ out. out) outs)
  of_outs [] [] zip = refl
  of_outs [] (out ∷ outs) zip = absurd zip
  of_outs (c ∷ cs) [] zip = absurd zip
  of_outs (c ∷ cs) (None ∷ outs) (none, zip) = inl (none, of_outs cs outs zip)
  of_outs (c ∷ cs) (Some t ∷ outs) (gives, zip) = inr (t, filter_map (λ out. out) outs, refl, gives, of_outs cs outs zip)

  pub terms_of : (ts : List Term) → AreTerms schema maximal q ts → AreInTurn schema maximal q (cases schema maximal q) ts
  terms_of ts h = subst (AreInTurn schema maximal q (cases schema maximal q)) (sym h.are) (of_outs (cases schema maximal q) h.outs h.each)
