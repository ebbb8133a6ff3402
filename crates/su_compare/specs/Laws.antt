-- Laws of comparing queries.
-- compared: by chase and mappings, which asks for terms without comparisons and of equal heads
use Rattle.std.specs.Prelude.{◌≡◌, IsTrue, List}
use Rattle.std.specs.Ordering.{nat_cmp}
use Rattle.std.specs.FinSet.{FinSet}
use Rattle.su_schema.specs.SchemaValue.{SchemaValue}
use Rattle.su_schema.specs.Valid.{IsValid}
use Rattle.su_query.specs.declared.resolving.Resolved.{Resolved}
use Rattle.su_steps.specs.declared.results.Term.{Term}
use Rattle.su_steps.specs.Refusals.{IsAccepted}
use Rattle.su_compare.specs.Equalities.{has_only_equalities}
use Rattle.su_compare.specs.Outputs.{output_kinds}
use Rattle.su_compare.specs.Within.{AreOf}
use Rattle.su_compare.specs.Comparable.{AreComparable}
use Rattle.su_compare.specs.declared.verdicts.Verdict.{Verdict}
use Rattle.su_compare.specs.Verdict.{IsVerdict, IsTrueOf}

-- the terms of two queries that are accepted, ask for equalities alone and have outputs of equal kinds can be compared
abbrev pub TermsAreComparable : Type 0
TermsAreComparable =
    (schema : SchemaValue) (maximal : List (FinSet nat_cmp)) (p q : Resolved) (first second : List Term) → IsValid schema → AreOf schema maximal p first → AreOf schema maximal q second
    → IsAccepted schema maximal p → IsAccepted schema maximal q → IsTrue (has_only_equalities p.cond) → IsTrue (has_only_equalities q.cond) → output_kinds schema p ≡ output_kinds schema q
    → AreComparable schema first second

-- the verdict of the terms of two queries that can be compared is true of the queries, over every universal relation that meets the dependencies
abbrev pub VerdictsDecide : Type 0
VerdictsDecide =
    (schema : SchemaValue) (maximal : List (FinSet nat_cmp)) (p q : Resolved) (first second : List Term) (v : Verdict) → IsValid schema → AreOf schema maximal p first → AreOf schema maximal q second
    → AreComparable schema first second → IsVerdict schema first second v → IsTrueOf schema maximal p q v
