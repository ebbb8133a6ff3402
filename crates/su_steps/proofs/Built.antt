-- From what the parts of a term were made of to the tableau of its names.
use Rattle.std.proofs.Common.{◌≡◌, ℕ, ◌*◌, List, length, map, ap, ◌∙◌, subst, arith}
use Rattle.su_where.specs.declared.literals.Literal.{Literal}
use Rattle.su_tableau.specs.declared.symbols.Sym.{Sym}
use Rattle.su_tableau.specs.Tableaux.{Tab, IsSmall}
use Rattle.su_schema.specs.SchemaValue.{SchemaValue}
use Rattle.su_schema.specs.Valid as schemas
use Rattle.su_query.specs.declared.places.Place.{Place}
use Rattle.su_query.specs.declared.resolving.Resolved.{Resolved}
use Rattle.su_steps.specs.declared.results.Origin.{Origin}
use Rattle.su_steps.specs.declared.classes.Classes.{Classes}
use Rattle.su_steps.specs.declared.building.Head.{Head}
use Rattle.su_steps.specs.Objects.{width}
use Rattle.su_steps.specs.PairSymbols.{place_symbol, comparisons}
use Rattle.su_steps.specs.CaseTableaux.{rows_of, tableau_of}
use Rattle.su_steps.specs.inside.Numbers.{class_name}
use Rattle.su_steps.specs.inside.Heads.{head_of, IsSomeFalse, IsNoneFalse}
use Rattle.su_steps.specs.inside.Ready.{FitOrigins}
use Rattle.su_steps.proofs.ResolvedQueries.{width_is}
use Rattle.su_steps.proofs.Valid.{length-rows}

abbrev pub tab_of : ℕ → List (List Sym) → Head → ℕ → Tab
tab_of n rows head outputs = record { width = n; rows = rows; head = head.symbols; outputs = outputs; operators = head.operators }

same_tab : (s t : Tab) → s.width ≡ t.width → s.rows ≡ t.rows → s.head ≡ t.head → s.outputs ≡ t.outputs → s.operators ≡ t.operators → s ≡ t
same_tab s t w r h o p = λ i. record { width = w i; rows = r i; head = h i; outputs = o i; operators = p i }

module _ (schema : SchemaValue) (q : Resolved) (ls : List Literal) (c : Classes) (v : ℕ) (ps : List Place) (variables : v ≡ length q.variables) (narrow : c.width ≡ width schema) (places : ps ≡ q.places) where
  abbrev edge : ℕ
  edge = length q.variables * width schema

  edge_is : v * c.width ≡ edge
  edge_is = ap (λ k. k * c.width) variables ∙ ap (λ k. length q.variables * k) narrow

  pub some_false_at : IsSomeFalse (class_name (v * c.width) c) (comparisons c.width ps ls) → IsSomeFalse (class_name edge c) (comparisons (width schema) q.places ls)
  some_false_at h =
      subst (λ xs. IsSomeFalse (class_name edge c) (comparisons (width schema) xs ls)) places
      (subst (λ k. IsSomeFalse (class_name edge c) (comparisons k ps ls)) narrow
      (subst (λ k. IsSomeFalse (class_name k c) (comparisons c.width ps ls)) edge_is h))

  pub none_false_at : IsNoneFalse (class_name (v * c.width) c) (comparisons c.width ps ls) → IsNoneFalse (class_name edge c) (comparisons (width schema) q.places ls)
  none_false_at h =
      subst (λ xs. IsNoneFalse (class_name edge c) (comparisons (width schema) xs ls)) places
      (subst (λ k. IsNoneFalse (class_name edge c) (comparisons k ps ls)) narrow
      (subst (λ k. IsNoneFalse (class_name k c) (comparisons c.width ps ls)) edge_is h))

  abbrev head_at : ℕ → ℕ → List Place → List ℕ → Head
  head_at k n xs outs = head_of (class_name k c) (map (λ i. class_name k c (place_symbol n xs i)) outs) (comparisons n xs ls)

  -- the parts that were made are those of the tableau
  pub built : (os : List Origin) (rows : List (List Sym)) (head : Head) (outs : List ℕ) (count : ℕ) → rows ≡ rows_of schema (class_name (v * c.width) c) (v * c.width) os → head ≡ head_of (class_name (v * c.width) c) (map (λ i. class_name (v * c.width) c (place_symbol c.width ps i)) outs) (comparisons c.width ps ls)
      → outs ≡ q.outputs → count ≡ length outs → tab_of c.width rows head count ≡ tableau_of schema q (class_name edge c) os (comparisons (width schema) q.places ls)
  built os rows head outs count rows_are head_is outputs many =
      let h : head ≡ head_at edge (width schema) q.places q.outputs =
      head_is ∙ ap (λ k. head_at k c.width ps outs) edge_is ∙ ap (λ n. head_at edge n ps outs) narrow ∙ ap (λ xs. head_at edge (width schema) xs outs) places ∙ ap (head_at edge (width schema) q.places) outputs in
      same_tab (tab_of c.width rows head count) (tableau_of schema q (class_name edge c) os (comparisons (width schema) q.places ls))
      narrow (rows_are ∙ ap (λ k. rows_of schema (class_name k c) k os) edge_is) (ap (λ (h : Head). h.symbols) h) (many ∙ ap length outputs) (ap (λ (h : Head). h.operators) h)

  pub small_of : (os : List Origin) → schemas.IsValid schema → FitOrigins schema q os → IsSmall (tableau_of schema q (class_name edge c) os (comparisons (width schema) q.places ls))
  small_of os valid fit = record {
    rows = (let e = length-rows schema (class_name edge c) edge os in let few = fit.few in omega arith);
    width = (let e = width_is schema in let few = valid.few_attributes in omega arith);
  }
