-- What a prepared query is: its terms, each with its least rows and its fold, and which of the terms are kept.
-- minimised: with its least rows and its fold; reduced: which terms are kept, and the covers of the others
use Rattle.std.specs.Prelude.{◌≡◌, List}
use Rattle.std.specs.List.{AllZip}
use Rattle.std.specs.Ordering.{nat_cmp}
use Rattle.std.specs.FinSet.{FinSet}
use Rattle.su_tableau.specs.Tableaux.{Tab}
use Rattle.su_schema.specs.SchemaValue.{SchemaValue}
use Rattle.su_query.specs.declared.resolving.Resolved.{Resolved}
use Rattle.su_query.specs.Ranges.{IsResolved}
use Rattle.su_steps.specs.Terms.{AreTerms}
use Rattle.su_min.specs.Kept.{Minimised, IsMinimised}
use Rattle.su_min.specs.Reduction.{IsReduced}
use Rattle.su_answer.specs.declared.preparing.Prepared.{Prepared}

-- m is the tableau t with its least rows and its fold
pub record IsMinimisedOf (t : Tab) (m : Minimised) : Type 0 where
  pub tableau : m.tableau ≡ t
  pub minimised : IsMinimised m

-- the terms of the query, each minimised, and what became of their union
pub record IsPrepared (schema : SchemaValue) (maximal : List (FinSet nat_cmp)) (q : Resolved) (p : Prepared) : Type 0 where
  pub terms : AreTerms schema maximal q p.terms
  pub minimals : AllZip (λ term m. IsMinimisedOf term.tableau m) p.terms p.minimals
  pub reduced : IsReduced p.minimals p.reduced

-- prepared from some query of the schema
pub record IsPreparedOn (schema : SchemaValue) (p : Prepared) : Type 0 where
  pub maximal : List (FinSet nat_cmp)
  pub query : Resolved
  pub resolved : IsResolved schema query
  pub is : IsPrepared schema maximal query p
