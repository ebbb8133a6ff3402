-- One query within another: over every universal relation that meets the dependencies, each row of the one is one of the other.
-- counterexample: a universal relation that meets the dependencies, and a row of the one query over it that is none of the other
use Rattle.std.specs.Prelude.{List}
use Rattle.std.specs.Ordering.{nat_cmp}
use Rattle.std.specs.FinSet.{FinSet}
use Rattle.su_base.specs.declared.values.Value.{Value}
use Rattle.su_tableau.specs.Kinds.{IsUniverse}
use Rattle.su_schema.specs.SchemaValue.{SchemaValue}
use Rattle.su_schema.specs.Entries.{attribute_kinds}
use Rattle.su_query.specs.declared.resolving.Resolved.{Resolved}
use Rattle.su_query.specs.Ranges.{IsResolved}
use Rattle.su_steps.specs.declared.results.Term.{Term}
use Rattle.su_steps.specs.Expression.{Meets, cuts, InExpression}
use Rattle.su_steps.specs.Terms.{AreTerms}

-- over every universal relation that meets the dependencies each row of the first query is one of the second
abbrev pub IsQueryWithin : SchemaValue → List (FinSet nat_cmp) → Resolved → Resolved → Type 0
IsQueryWithin schema maximal p q =
    (universe : List (List Value)) (h : List Value) → IsUniverse (attribute_kinds schema) universe → Meets schema.fds universe
    → InExpression schema maximal p (cuts schema universe) h → InExpression schema maximal q (cuts schema universe) h

-- a universal relation that meets the dependencies, and a row of the first query over it that is none of the second
pub record IsCounterexample (schema : SchemaValue) (maximal : List (FinSet nat_cmp)) (p q : Resolved) (universe : List (List Value)) (h : List Value) : Type 0 where
  pub typed : IsUniverse (attribute_kinds schema) universe
  pub meets : Meets schema.fds universe
  pub in_first : InExpression schema maximal p (cuts schema universe) h
  pub not_in_second : InExpression schema maximal q (cuts schema universe) h → ⊥

-- these are the terms of the query
pub record AreOf (schema : SchemaValue) (maximal : List (FinSet nat_cmp)) (q : Resolved) (terms : List Term) : Type 0 where
  pub resolved : IsResolved schema q
  pub terms_are : AreTerms schema maximal q terms
