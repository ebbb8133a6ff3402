-- What part of a join some valuation meets.
-- task: rows to be joined and comparisons that are to hold; fixed: comparisons that are to hold beside these
-- s: some of the task's rows by their places, and of its comparisons by theirs behind the rows, as one ascending list of numbers
-- counted: a comparison of s, or a fixed one, of which each variable stands in a row of s
use Rattle.std.specs.Prelude.{◌≡◌, ◌⊎◌, ℕ, ◌+◌, List, length, slice_get, Contains, Some}
use Rattle.su_base.specs.declared.values.Value.{Value}
use Rattle.su_rel.specs.Stored.{Stored}
use Rattle.su_tableau.specs.declared.symbols.Sym.{Sym}
use Rattle.su_tableau.specs.declared.symbols.Sym.TheVariants.{Var}
use Rattle.su_exec.specs.declared.tasks.TaskRow.{TaskRow}
use Rattle.su_exec.specs.declared.tasks.Compared.{Compared}
use Rattle.su_exec.specs.declared.tasks.Task.{Task}
use Rattle.su_exec.specs.Outputs.{Agrees, HoldsUnder}

-- a task over stored rows, with fixed comparisons
pub record Asked : Type 0 where
  pub tables : List Stored
  pub task : Task
  pub fixed : List Compared

-- how many rows and comparisons the task has
abbrev pub size_of : Task → ℕ
size_of task = length task.rows + length task.comparisons

-- a row of s
pub record IsRowOf (task : Task) (s : List ℕ) (row : TaskRow) : Type 0 where
  pub place : ℕ
  pub of_set : Contains s place
  pub is : slice_get task.rows place ≡ Some row

-- a comparison of s
pub record IsComparisonOf (task : Task) (s : List ℕ) (c : Compared) : Type 0 where
  pub place : ℕ
  pub of_set : Contains s (length task.rows + place)
  pub is : slice_get task.comparisons place ≡ Some c

-- where the symbol is a variable, it stands in a row of s
abbrev pub IsHeld : Task → List ℕ → Sym → Type 0
IsHeld task s x = (k : ℕ) → x ≡ Var k → (row : TaskRow) × IsRowOf task s row × Contains row.cells (Var k)

-- a comparison that is to hold where s is met
pub record IsCounted (asked : Asked) (s : List ℕ) (c : Compared) : Type 0 where
  pub from : IsComparisonOf asked.task s c ⊎ Contains asked.fixed c
  pub left : IsHeld asked.task s c.left
  pub right : IsHeld asked.task s c.right

-- under some valuation each row of s has the values of a stored row of one of its sources, and each counted comparison holds
pub record IsMet (asked : Asked) (s : List ℕ) : Type 0 where
  pub valuation : ℕ → Value
  pub rows : (row : TaskRow) → IsRowOf asked.task s row → Agrees asked.tables valuation row
  pub comparisons : (c : Compared) → IsCounted asked s c → HoldsUnder valuation c

-- no valuation meets s
abbrev pub IsUnmet : Asked → List ℕ → Type 0
IsUnmet asked s = ¬ IsMet asked s
