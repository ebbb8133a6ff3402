-- What the closed classes of a disjunct and a choice give, in the words of the code that closes them.
use Rattle.std.proofs.Common.{◌≡◌, ℕ, ◌*◌, ◌<◌, ◌≤◌, List, length, map, sym, ◌∙◌, subst, arith}
use Rattle.std.specs.Prelude.{All}
use Rattle.su_where.specs.declared.literals.Literal.{Literal}
use Rattle.su_where.specs.Places.{HasPlacesBelow}
use Rattle.su_tableau.specs.declared.symbols.Sym.{Sym}
use Rattle.su_tableau.specs.Tableaux.{Tab, IsValid, IsSmall}
use Rattle.su_classes.specs.Tables.{rep}
use Rattle.su_schema.specs.SchemaValue.{SchemaValue}
use Rattle.su_schema.specs.Valid as schemas
use Rattle.su_query.specs.declared.places.Place.{Place}
use Rattle.su_query.specs.declared.resolving.Resolved.{Resolved}
use Rattle.su_query.specs.Ranges.{IsResolved}
use Rattle.su_steps.specs.declared.results.Origin.{Origin}
use Rattle.su_steps.specs.declared.classes.Classes.{Classes}
use Rattle.su_steps.specs.declared.building.Head.{Head}
use Rattle.su_steps.specs.Objects.{width}
use Rattle.su_steps.specs.PairSymbols.{place_symbol, comparisons}
use Rattle.su_steps.specs.CaseTableaux.{rows_of, tableau_of}
use Rattle.su_steps.specs.Cases.{HaveNone, HaveTableau}
use Rattle.su_steps.specs.inside.Numbers.{class_name, AreClasses}
use Rattle.su_steps.specs.inside.Heads.{head_of, IsSomeFalse, IsNoneFalse}
use Rattle.su_steps.specs.inside.Ready.{AreClosed, FitLiterals, FitOrigins, IsShown}
use Rattle.su_steps.proofs.ResolvedQueries.{width_is}
use Rattle.su_steps.proofs.Tabled.{are_classes, none_by_clash, none_by_false, made, valid_of}
use Rattle.su_steps.proofs.Built.{tab_of, some_false_at, none_false_at, built, small_of}

-- ---- the closed classes

module _ (schema : SchemaValue) (q : Resolved) (ls : List Literal) (os : List Origin) (c : Classes) (valid : schemas.IsValid schema) (resolved : IsResolved schema q) (fits : FitLiterals schema q ls) (fit : FitOrigins schema q os) (closed : AreClosed schema q ls os c) (v : ℕ) (ps : List Place) (outs : List ℕ)
    (variables : v ≡ length q.variables) (places : ps ≡ q.places) (outputs : outs ≡ q.outputs) where
  pub closed_classes : AreClasses v c
  closed_classes =
      subst (λ k. AreClasses k c) (sym variables)
      (are_classes (width schema) q ls c closed.ready (let e = width_is schema in let few = valid.few_attributes in omega arith) resolved.few_variables closed.least.ordered)

  pub constants_in : length c.constants ≤ length c.table.items
  constants_in = let e = closed.ready.size in omega arith

  pub pairs_in : All (λ p. (p.variable < v) × (p.attribute < c.width)) ps
  pairs_in =
      subst (All (λ (p : Place). (p.variable < v) × (p.attribute < c.width))) (sym places)
      (λ k p l.
      let r = resolved.places k p l in
      let a = r.variable in
      let b = r.attribute in
      let n = width_is schema in
      let w = closed.ready.width in
      (omega (arith, a, variables), omega (arith, b, n, w)))

  pub outputs_in : All (λ i. i < length ps) outs
  outputs_in = subst (λ xs. All (λ i. i < length xs) outs) (sym places) (subst (All (λ i. i < length q.places)) (sym outputs) resolved.outputs)

  pub literals_in : All (HasPlacesBelow (length ps)) ls
  literals_in = subst (λ xs. All (HasPlacesBelow (length xs)) ls) (sym places) fits.places

  pub origins_in : All (λ o. (o.variable < v) × (o.object < length schema.objects)) os
  origins_in = subst (λ k. All (λ (o : Origin). (o.variable < k) × (o.object < length schema.objects)) os) (sym variables) fit.in_range

  pub closed_clash : (i : ℕ) × (i < length c.constants) × (rep c.table.items i < i) → HaveNone schema os (comparisons (width schema) q.places ls)
  closed_clash w = none_by_clash schema q ls os c valid resolved fits fit closed w

  pub closed_false : IsSomeFalse (class_name (v * c.width) c) (comparisons c.width ps ls) → HaveNone schema os (comparisons (width schema) q.places ls)
  closed_false h = none_by_false schema q ls os c valid resolved fits fit closed (some_false_at schema q ls c v ps variables closed.ready.width places h)

  module _ (rows : List (List Sym)) (head : Head) (count : ℕ) (rows_are : rows ≡ rows_of schema (class_name (v * c.width) c) (v * c.width) os)
      (head_is : head ≡ head_of (class_name (v * c.width) c) (map (λ i. class_name (v * c.width) c (place_symbol c.width ps i)) outs) (comparisons c.width ps ls)) (many : count ≡ length outs) where
    is_built : tab_of c.width rows head count ≡ tableau_of schema q (class_name (length q.variables * width schema) c) os (comparisons (width schema) q.places ls)
    is_built = built schema q ls c v ps variables closed.ready.width places os rows head outs count rows_are head_is outputs many

    pub closed_made : ((i : ℕ) × (i < length c.constants) × (rep c.table.items i < i) → ⊥) → IsNoneFalse (class_name (v * c.width) c) (comparisons c.width ps ls) → (t : Tab) → t ≡ tab_of c.width rows head count → HaveTableau schema q os (comparisons (width schema) q.places ls) t
    closed_made clash none t is =
        made schema q ls os c valid resolved fits fit closed clash (none_false_at schema q ls c v ps variables closed.ready.width places none) t (is ∙ is_built)

    pub closed_valid : IsShown schema q os → IsValid (tab_of c.width rows head count)
    closed_valid shown = subst IsValid (sym is_built) (valid_of schema q ls os c valid resolved fits fit closed shown)

    pub closed_small : IsSmall (tab_of c.width rows head count)
    closed_small = subst IsSmall (sym is_built) (small_of schema q ls c v ps variables closed.ready.width places os valid fit)
