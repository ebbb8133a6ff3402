-- How many stored rows a task may fetch.
-- share: of a row and one of its sources, the least number of stored rows that agree with one constant of the row; all rows where it has none
use Rattle.std.specs.Prelude.{ℕ, min, sum, List, [], ◌∷◌, map, length}
use Rattle.su_base.specs.declared.values.Value.{Value}
use Rattle.su_rel.specs.Stored.{Stored}
use Rattle.su_tableau.specs.declared.symbols.Sym.{Sym}
use Rattle.su_tableau.specs.declared.symbols.Sym.TheVariants.{Const, Var}
use Rattle.su_index.specs.Matches.{matches}
use Rattle.su_index.specs.Tables.{table_at}
use Rattle.su_exec.specs.declared.tasks.Source.{Source}
use Rattle.su_exec.specs.declared.tasks.TaskRow.{TaskRow}
use Rattle.su_exec.specs.declared.tasks.Task.{Task}

-- the least of n and the numbers of rows that agree with one constant
abbrev pub least_matches : List (List Value) → ℕ → List Sym → List ℕ → ℕ
least_matches rows n [] columns = n
least_matches rows n (cell ∷ cells) [] = n
least_matches rows n (Const value ∷ cells) (column ∷ columns) = min (matches column value rows) (least_matches rows n cells columns)
least_matches rows n (Var k ∷ cells) (column ∷ columns) = least_matches rows n cells columns

-- of all rows of the source's table, or of those that agree with one constant, the least number
abbrev pub share : List Stored → List Sym → Source → ℕ
share tables cells source = let rows = (table_at tables source.relation).rows in least_matches rows (length rows) cells source.columns

-- the shares of a row
abbrev pub row_share : List Stored → TaskRow → ℕ
row_share tables row = sum (map (share tables row.cells) row.sources)

-- the shares of all rows
abbrev pub task_share : List Stored → Task → ℕ
task_share tables task = sum (map (row_share tables) task.rows)
