-- The select of what is joined for a kept term.
-- join: each further place of a variable has the value of the first one; fixed: the place of a constant has that value
use Rattle.std.specs.Prelude.{◌≡◌, List, map, length, Contains}
use Rattle.su_schema.specs.SchemaValue.{SchemaValue}
use Rattle.su_exec.specs.declared.tasks.Source.{Source}
use Rattle.su_exec.specs.declared.tasks.TaskRow.{TaskRow}
use Rattle.su_exec.specs.declared.tasks.Task.{Task}
use Rattle.su_exec.specs.Tasks.{AllOccur}
use Rattle.su_min.specs.Kept.{Minimised}
use Rattle.su_answer.specs.Joined.{IsTaskOf}
use Rattle.su_sql.specs.declared.tables.Table.{Table}
use Rattle.su_sql.specs.declared.tables.Select.{Select}
use Rattle.su_sql.specs.declared.cells.Cell.{Cell}
use Rattle.su_sql.specs.Cells.{cells_of}
use Rattle.su_sql.specs.TaskJoins.{operand_of, comparison_of, joins_of, fixed_of}

-- the table of a row: its sources
abbrev pub table_of : TaskRow → Table
table_of row = record { sources = row.sources }

-- the select with these cells
abbrev pub select_with : Task → List Cell → Select
select_with task cells = record {
  tables = map table_of task.rows;
  joins = joins_of cells;
  fixed = fixed_of cells;
  comparisons = map (comparison_of cells) task.comparisons;
  outputs = map (operand_of cells) task.outputs;
}

-- the select of a task
abbrev pub select_of : Task → Select
select_of task = select_with task (cells_of task.rows)

-- sources are as wide as their rows, and the symbols that are compared and given stand in rows
pub record IsJoined (task : Task) : Type 0 where
  pub widths : (row : TaskRow) (source : Source) → Contains task.rows row → Contains row.sources source → length source.columns ≡ length row.cells
  pub occur : AllOccur task

-- the select of a term's kept rows: a table for each
pub record IsSelectOf (schema : SchemaValue) (m : Minimised) (s : Select) : Type 0 where
  pub task : Task
  pub is_task : IsTaskOf schema m.tableau m.mask task
  pub joined : IsJoined task
  pub is : s ≡ select_of task
