-- Comparisons as ranges: candidates lose rows that no partner's value can meet.
-- side: the operator that tells, of two values on the right of a comparison, which one more values meet
-- No public contract cites this module.
use Rattle.std.specs.Prelude.{◌≡◌, ◌<◌, ◌↔◌, ℕ, Bool, true, false, List, [], length, slice_index_or, Contains}
use Rattle.su_base.specs.declared.values.Value.{Value}
use Rattle.su_where.specs.Operator.{compares}
use Rattle.su_where.specs.declared.operators.Op.{Op}
use Rattle.su_exec.specs.declared.checks.Test.{Test}
use Rattle.su_reduce.specs.Codes.{decode}
use Rattle.su_exec.specs.inside.Checks.{test_passes}
use Rattle.su_exec.specs.inside.Edges.{Edge, FitsAll, among}

-- what meets b meets c where b is on this side of c; else what meets c meets b
pub record IsSide (op side : Op) : Type 0 where
  pub farther : (x b c : Value) → compares side b c ≡ true → compares op x b ≡ true → compares op x c ≡ true
  pub nearer : (x b c : Value) → compares side b c ≡ false → compares op x c ≡ true → compares op x b ≡ true

-- what meets the value of the one code meets that of the other
abbrev pub Widens : List Value → Op → ℕ → ℕ → Type 0
Widens values op one other = (x : Value) → compares op x (decode values one) ≡ true → compares op x (decode values other) ≡ true

-- what meets the code at the place of some row meets the bound
abbrev pub IsWidest : List Value → Edge ℕ → ℕ → Op → ℕ → Type 0
IsWidest values e place side bound = (op : Op) → IsSide op side → (i : ℕ) → i < length e.rows → Widens values op (slice_index_or (slice_index_or e.rows i []) place 0) bound

-- what meets the variable's value under some valuation meets the bound
abbrev pub IsBound : List Value → List (Edge ℕ) → ℕ → Op → ℕ → Type 0
IsBound values es y side bound = (op : Op) → IsSide op side → (v : ℕ → ℕ) → FitsAll v es → Widens values op (v y) bound

-- those of the first n rows that pass the test
abbrev pub ArePassing : List Value → Edge ℕ → Test → ℕ → List (List ℕ) → Type 0
ArePassing values e test n rows = (r : List ℕ) → Contains rows r ↔ ((i : ℕ) × (i < n) × (slice_index_or e.rows i [] ≡ r) × (test_passes values r [] test ≡ true))

-- whether the operator holds of the two variables' values
abbrev pub meets : List Value → ℕ → Op → ℕ → (ℕ → ℕ) → Bool
meets values x op y v = compares op (decode values (v x)) (decode values (v y))

-- whether the operator holds of the variable's value and the code's
abbrev pub meets_code : List Value → ℕ → Op → ℕ → (ℕ → ℕ) → Bool
meets_code values x op bound v = compares op (decode values (v x)) (decode values bound)

-- edges that have lost rows, but none that a valuation that passes the test gives
pub record AreCut (t : (ℕ → ℕ) → Bool) (es fs : List (Edge ℕ)) : Type 0 where
  pub fewer : (v : ℕ → ℕ) → FitsAll v fs → FitsAll v es
  pub stays : (v : ℕ → ℕ) → t v ≡ true → FitsAll v es → FitsAll v fs
  pub len : length fs ≡ length es
  pub vars : (k : ℕ) → among es k ≡ true → among fs k ≡ true
