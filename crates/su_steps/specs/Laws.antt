-- Laws of the terms of a query.
-- term, expression, source: as in Terms, Expression and Sources
use Rattle.std.specs.Prelude.{◌↔◌, ◌<◌, ℕ, List, length, All, Contains}
use Rattle.std.specs.Ordering.{nat_cmp}
use Rattle.std.specs.FinSet.{FinSet}
use Rattle.su_base.specs.declared.values.Value.{Value}
use Rattle.su_tableau.specs.Tableaux as tableaux
use Rattle.su_tableau.specs.Kinds.{IsUniverse, IsTyped}
use Rattle.su_schema.specs.SchemaValue.{SchemaValue}
use Rattle.su_schema.specs.Valid.{IsValid}
use Rattle.su_schema.specs.Entries.{attribute_kinds}
use Rattle.su_query.specs.declared.resolving.Resolved.{Resolved}
use Rattle.su_query.specs.Ranges.{IsResolved}
use Rattle.su_steps.specs.declared.results.Term.{Term}
use Rattle.su_steps.specs.Expression.{Meets, cuts, InExpression}
use Rattle.su_steps.specs.Terms.{AreTerms, InUnion}
use Rattle.su_steps.specs.Sources.{IsSource}

-- the terms together have the lists of the expression, over every universal relation that meets the dependencies
abbrev pub AreTheExpression : SchemaValue → List (FinSet nat_cmp) → Resolved → List Term → Type 0
AreTheExpression schema maximal q ts = (universe : List (List Value)) (h : List Value) → IsUniverse (attribute_kinds schema) universe → Meets schema.fds universe
    → (InUnion ts universe h ↔ InExpression schema maximal q (cuts schema universe) h)

-- the terms of each query of each valid schema have the lists of its expression
abbrev pub TermsAreTheExpression : Type 0
TermsAreTheExpression =
    (schema : SchemaValue) (maximal : List (FinSet nat_cmp)) (q : Resolved) (ts : List Term) → IsValid schema → IsResolved schema q → AreTerms schema maximal q ts
    → AreTheExpression schema maximal q ts

-- each row of a term has a source, whatever set of the rows it is looked at among
abbrev pub RowsHaveSources : Type 0
RowsHaveSources =
    (schema : SchemaValue) (maximal : List (FinSet nat_cmp)) (q : Resolved) (ts : List Term) → IsValid schema → IsResolved schema q → AreTerms schema maximal q ts
    → (t : Term) (m i : ℕ) → Contains ts t → i < length t.tableau.rows → (o : ℕ) × IsSource schema t.tableau m i o

-- the terms of each query of each valid schema are valid tableaux, well typed for the kinds of the attributes
abbrev pub TermsAreValidAndTyped : Type 0
TermsAreValidAndTyped =
    (schema : SchemaValue) (maximal : List (FinSet nat_cmp)) (q : Resolved) (ts : List Term) → IsValid schema → IsResolved schema q → AreTerms schema maximal q ts
    → All (λ (t : Term). tableaux.IsValid t.tableau × IsTyped (attribute_kinds schema) t.tableau) ts
