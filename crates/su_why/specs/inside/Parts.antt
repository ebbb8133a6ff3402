-- The part of a task that a set asks for, as a task of its own.
-- s: rows and comparisons of a task, by number; fixed: comparisons that are to hold beside these
-- No public contract cites this module.
use Rattle.std.specs.Prelude.{◌≡◌, ◌↔◌, ◌≤◌, ℕ, List, [], length, Contains}
use Rattle.su_tableau.specs.declared.symbols.Sym.{Sym}
use Rattle.su_tableau.specs.declared.symbols.Sym.TheVariants.{Var}
use Rattle.su_rel.specs.Stored.{Stored}
use Rattle.su_exec.specs.declared.tasks.TaskRow.{TaskRow}
use Rattle.su_exec.specs.declared.tasks.Compared.{Compared}
use Rattle.su_exec.specs.declared.tasks.Task.{Task}
use Rattle.su_why.specs.Met.{IsRowOf, IsComparisonOf, IsCounted}

-- the rows of s
pub record AreRowsOf (task : Task) (s : List ℕ) (rows : List TaskRow) : Type 0 where
  pub members : (row : TaskRow) → Contains rows row ↔ IsRowOf task s row
  pub few : length rows ≤ length task.rows

-- the variable stands in one of the rows
abbrev pub StandsInSome : List TaskRow → ℕ → Type 0
StandsInSome rows k = (row : TaskRow) × Contains rows row × Contains row.cells (Var k)

-- where the symbol is a variable, it stands in one of the rows
abbrev pub IsIn : List TaskRow → Sym → Type 0
IsIn rows x = (k : ℕ) → x ≡ Var k → StandsInSome rows k

-- both sides are in the rows
abbrev pub AreIn : List TaskRow → Compared → Type 0
AreIn rows c = IsIn rows c.left × IsIn rows c.right

-- the comparisons of s that are in the rows
abbrev pub AreComparisonsOf : Task → List ℕ → List TaskRow → List Compared → Type 0
AreComparisonsOf task s rows found = (c : Compared) → Contains found c ↔ (IsComparisonOf task s c × AreIn rows c)

-- those of some comparisons that are in the rows
abbrev pub AreThoseIn : List Compared → List TaskRow → List Compared → Type 0
AreThoseIn comparisons rows found = (c : Compared) → Contains found c ↔ (Contains comparisons c × AreIn rows c)

-- the rows of s and the comparisons that count; nothing is given
pub record IsPartOf (task : Task) (fixed : List Compared) (s : List ℕ) (part : Task) : Type 0 where
  pub rows : AreRowsOf task s part.rows
  pub comparisons : (tables : List Stored) (c : Compared) → Contains part.comparisons c ↔ IsCounted (record { tables = tables; task = task; fixed = fixed }) s c
  pub outputs : part.outputs ≡ []
