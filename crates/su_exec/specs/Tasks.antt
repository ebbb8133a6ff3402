-- Tasks: what is to be joined.
-- row: cells, which are symbols, and sources, where its rows are stored; source: a table's number, and the column of each cell
-- comparison: two symbols and an operator; outputs: the symbols whose values are asked for
use Rattle.std.specs.Prelude.{◌≡◌, ◌≤◌, ◌<◌, ℕ, List, [], length, All, Contains, slice_index_or}
use Rattle.su_rel.specs.Stored.{Stored}
use Rattle.su_index.specs.Tables.{table_at}
use Rattle.su_tableau.specs.declared.symbols.Sym.TheVariants.{Var}
use Rattle.su_exec.specs.declared.tasks.Source.{Source}
use Rattle.su_exec.specs.declared.tasks.TaskRow.{TaskRow}
use Rattle.su_exec.specs.declared.tasks.Compared.{Compared}
use Rattle.su_exec.specs.declared.tasks.Task.{Task}

-- stands where a task has no such row
abbrev pub no_row : TaskRow
no_row = record { cells = []; sources = [] }

-- variable k is a cell of row i
pub record StandsIn (task : Task) (k i : ℕ) : Type 0 where
  pub row : TaskRow
  pub below : i < length task.rows
  pub is : (d : TaskRow) → slice_index_or task.rows i d ≡ row
  pub cell : Contains row.cells (Var k)

-- variable k stands in some row
abbrev pub Occurs : Task → ℕ → Type 0
Occurs task k = (i : ℕ) × StandsIn task k i

-- the source names a table, and has one column of it per cell
pub record FitsTables (tables : List Stored) (cells : ℕ) (source : Source) : Type 0 where
  pub relation : source.relation < length tables
  pub columns : length source.columns ≡ cells
  pub within : All (λ column. column < (table_at tables source.relation).width) source.columns

-- each source of the row fits the tables
abbrev pub HasSources : List Stored → TaskRow → Type 0
HasSources tables row = All (FitsTables tables (length row.cells)) row.sources

-- the variables that are given and compared stand in rows
pub record AllOccur (task : Task) : Type 0 where
  pub outputs : (k : ℕ) → Contains task.outputs (Var k) → Occurs task k
  pub left : (c : Compared) (k : ℕ) → Contains task.comparisons c → c.left ≡ Var k → Occurs task k
  pub right : (c : Compared) (k : ℕ) → Contains task.comparisons c → c.right ≡ Var k → Occurs task k

-- a task over these tables
pub record IsTask (tables : List Stored) (task : Task) : Type 0 where
  pub few : length task.rows ≤ 64
  pub sources : All (HasSources tables) task.rows
  pub occur : AllOccur task
