-- What is said of the terms of two queries.
-- settled: a term whose chase clashes, or into whose chased tableau some term of the second query maps, all rows into all rows
-- reason: that it clashes, or the least such term and its first mapping
-- apart: the least term that is not settled, its chased tableau frozen; the constants of all terms of both queries are avoided
use Rattle.std.specs.Prelude.{◌≡◌, ◌↔◌, ℕ, ◌<◌, List, length, get_or}
use Rattle.std.specs.Ordering.{nat_cmp}
use Rattle.std.specs.FinSet.{FinSet}
use Rattle.su_base.specs.declared.values.Value.{Value}
use Rattle.su_fd.specs.declared.dependencies.Fd.{Fd}
use Rattle.su_schema.specs.SchemaValue.{SchemaValue}
use Rattle.su_query.specs.declared.resolving.Resolved.{Resolved}
use Rattle.su_steps.specs.declared.results.Term.{Term}
use Rattle.su_compare.specs.declared.verdicts.Reason.{Reason}
use Rattle.su_compare.specs.declared.verdicts.Verdict.{Verdict}
use Rattle.su_compare.specs.declared.verdicts.Verdict.TheVariants.{Within, Apart}
use Rattle.su_compare.specs.Settled.{tab_at, IsBy}
use Rattle.su_compare.specs.Counterexamples.{IsApart}
use Rattle.su_compare.specs.Within.{IsQueryWithin, IsCounterexample, AreOf}

-- the reason of the term with this number
pub record IsReason (fds : List Fd) (first second : List Term) (i : ℕ) (r : Reason) : Type 0 where
  pub term : r.term ≡ i
  pub by : IsBy fds second (tab_at first i) r.by

-- one for each term, in their order
pub record AreReasons (fds : List Fd) (first second : List Term) (reasons : List Reason) : Type 0 where
  pub one_each : length reasons ≡ length first
  pub each : (i : ℕ) (d : Reason) → i < length first → IsReason fds first second i (get_or reasons i d)

-- a yes with a reason for each term, or a no with a relation and a row of it
abbrev pub IsVerdict : SchemaValue → List Term → List Term → Verdict → Type 0
IsVerdict schema first second (Within reasons) = AreReasons schema.fds first second reasons
IsVerdict schema first second (Apart term universe head) = IsApart schema first second term (record { universe = universe; head = head })

-- the verdict is a yes
abbrev pub IsYes : Verdict → Type 0
IsYes (Within reasons) = Unit {0}
IsYes (Apart term universe head) = ⊥

-- what holds of the rows and the row that are shown
abbrev pub IfApart : Verdict → (List (List Value) → List Value → Type 0) → Type 0
IfApart (Within reasons) P = Unit {0}
IfApart (Apart term universe head) P = P universe head

-- a yes just where the first query is within the second, and what a no shows is a counterexample
pub record IsTrueOf (schema : SchemaValue) (maximal : List (FinSet nat_cmp)) (p q : Resolved) (v : Verdict) : Type 0 where
  pub decides : IsYes v ↔ IsQueryWithin schema maximal p q
  pub apart : IfApart v (IsCounterexample schema maximal p q)

-- a yes just where a query with the first terms is within one with the second
abbrev pub Decides : SchemaValue → List Term → List Term → Verdict → Type 0
Decides schema first second v =
    (maximal : List (FinSet nat_cmp)) (p q : Resolved) → AreOf schema maximal p first → AreOf schema maximal q second → (IsYes v ↔ IsQueryWithin schema maximal p q)

-- what a no shows is a counterexample for queries with these terms
abbrev pub ShowsApart : SchemaValue → List Term → List Term → Verdict → Type 0
ShowsApart schema first second v =
    (maximal : List (FinSet nat_cmp)) (p q : Resolved) → AreOf schema maximal p first → AreOf schema maximal q second → IfApart v (IsCounterexample schema maximal p q)
