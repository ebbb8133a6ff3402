-- One query within another over universal relations of bytes.
-- terms: those of the two queries
use Rattle.std.specs.Prelude.{List}
use Rattle.std.specs.Ordering.{nat_cmp}
use Rattle.std.specs.FinSet.{FinSet}
use Rattle.su_base.specs.declared.values.Value.{Value}
use Rattle.su_tableau.specs.Bytes.{IsByteUniverse}
use Rattle.su_schema.specs.SchemaValue.{SchemaValue}
use Rattle.su_schema.specs.Entries.{attribute_kinds}
use Rattle.su_schema.specs.Valid.{IsValid}
use Rattle.su_query.specs.declared.resolving.Resolved.{Resolved}
use Rattle.su_steps.specs.declared.results.Term.{Term}
use Rattle.su_steps.specs.Expression.{Meets, cuts, InExpression}
use Rattle.su_compare.specs.Within.{IsQueryWithin, AreOf}
use Rattle.su_bytes.specs.Constants.{AreByteTerms, CompareNothing}

-- over every universal relation of bytes that meets the dependencies each row of the first query is one of the second
abbrev pub IsByteQueryWithin : SchemaValue → List (FinSet nat_cmp) → Resolved → Resolved → Type 0
IsByteQueryWithin schema maximal p q =
    (universe : List (List Value)) (h : List Value) → IsByteUniverse (attribute_kinds schema) universe → Meets schema.fds universe
    → InExpression schema maximal p (cuts schema universe) h → InExpression schema maximal q (cuts schema universe) h

-- where the terms of both queries compare nothing, and the constants of the first one's are of bytes, it is then so over every universal relation that meets them
abbrev pub BytesSufficeForQueries : Type 0
BytesSufficeForQueries =
    (schema : SchemaValue) (maximal : List (FinSet nat_cmp)) (p q : Resolved) (first second : List Term) → IsValid schema → AreOf schema maximal p first → AreOf schema maximal q second
    → CompareNothing first → CompareNothing second → AreByteTerms first → IsByteQueryWithin schema maximal p q → IsQueryWithin schema maximal p q
