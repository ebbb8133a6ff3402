-- Laws of unmerged terms.
-- closed for a case, expression, union: as in su_steps Classes, Expression and Terms
use Rattle.std.specs.Prelude.{◌≡◌, ◌↔◌, List, Contains}
use Rattle.std.specs.Ordering.{nat_cmp}
use Rattle.std.specs.FinSet.{FinSet}
use Rattle.su_base.specs.declared.values.Value.{Value}
use Rattle.su_where.specs.declared.operators.Op.TheVariants.{Equal}
use Rattle.su_tableau.specs.declared.symbols.Sym.{Sym}
use Rattle.su_tableau.specs.Kinds.{IsUniverse}
use Rattle.su_schema.specs.SchemaValue.{SchemaValue}
use Rattle.su_schema.specs.Valid.{IsValid}
use Rattle.su_schema.specs.Entries.{attribute_kinds}
use Rattle.su_query.specs.declared.resolving.Resolved.{Resolved}
use Rattle.su_query.specs.Ranges.{IsResolved}
use Rattle.su_steps.specs.declared.results.Origin.{Origin}
use Rattle.su_steps.specs.declared.results.Term.{Term}
use Rattle.su_steps.specs.Classes.{IsClosedForCase}
use Rattle.su_steps.specs.Expression.{Meets, cuts, InExpression}
use Rattle.su_steps.specs.PairSymbols.{SymbolComparison}
use Rattle.su_steps.specs.Terms.{AreTerms, InUnion}
use Rattle.su_unmerged.specs.Unmerged.{without_dependencies, AreUnmergedTerms}

-- without dependencies a partition is closed where it puts the sides of each equality together
abbrev pub EqualitiesAloneMerge : Type 0
EqualitiesAloneMerge =
    (schema : SchemaValue) (os : List Origin) (d : List SymbolComparison) (label : Sym → Sym)
    → IsClosedForCase (without_dependencies schema) os d label ↔ ((c : SymbolComparison) → Contains d c → c.op ≡ Equal → label c.left ≡ label c.right)

-- the unmerged terms of each query have the lists of its expression, over every universal relation
abbrev pub UnmergedTermsAreTheExpression : Type 0
UnmergedTermsAreTheExpression =
    (schema : SchemaValue) (maximal : List (FinSet nat_cmp)) (q : Resolved) (ts : List Term) → IsValid schema → IsResolved schema q → AreUnmergedTerms schema maximal q ts
    → (universe : List (List Value)) (h : List Value) → IsUniverse (attribute_kinds schema) universe → (InUnion ts universe h ↔ InExpression schema maximal q (cuts schema universe) h)

-- the terms of each query and its unmerged terms have the same lists, over every universal relation that meets the dependencies
abbrev pub TermsAnswerAsUnmerged : Type 0
TermsAnswerAsUnmerged =
    (schema : SchemaValue) (maximal : List (FinSet nat_cmp)) (q : Resolved) (ts unmerged : List Term) → IsValid schema → IsResolved schema q → AreTerms schema maximal q ts → AreUnmergedTerms schema maximal q unmerged
    → (universe : List (List Value)) (h : List Value) → IsUniverse (attribute_kinds schema) universe → Meets schema.fds universe → (InUnion ts universe h ↔ InUnion unmerged universe h)
