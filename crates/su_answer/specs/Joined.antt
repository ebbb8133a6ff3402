-- What is joined for the kept rows of a tableau: the essential cells of each, with the columns of its sources.
-- source: the relation of an object, with its columns for the row's essential attributes; task: what su_exec joins
use Rattle.std.specs.Prelude.{◌≡◌, ◌↔◌, ℕ, ◌+◌, ◌*◌, IsTrue, List, map, take, length, get_or, slice_get, Contains, Some}
use Rattle.std.specs.List.{AllZip, range_with_len}
use Rattle.std.specs.Ordering.{nat_cmp}
use Rattle.std.specs.FinSet.{FinSet, contains}
use Rattle.su_where.specs.declared.operators.Op.TheVariants.{Equal}
use Rattle.su_tableau.specs.declared.symbols.Sym.TheVariants.{Var}
use Rattle.su_tableau.specs.Tableaux.{Tab}
use Rattle.su_tableau.specs.Essential.{IsEssential}
use Rattle.su_schema.specs.SchemaValue.{SchemaValue, ObjectEntry}
use Rattle.su_schema.specs.Entries.{column_of}
use Rattle.su_schema.specs.SetMembers.{numbers_in}
use Rattle.su_tableau.specs.Parts.{cell_at}
use Rattle.su_map.specs.Lists.{row_numbers, row_of}
use Rattle.su_steps.specs.Sources.{IsSource}
use Rattle.su_exec.specs.declared.tasks.Source.{Source}
use Rattle.su_exec.specs.declared.tasks.TaskRow.{TaskRow}
use Rattle.su_exec.specs.declared.tasks.Compared.{Compared}
use Rattle.su_exec.specs.declared.tasks.Task.{Task}

-- the source is the object's relation, with its columns for these attributes
pub record IsSourceOf (schema : SchemaValue) (attributes : List ℕ) (o : ℕ) (s : Source) : Type 0 where
  pub object : ObjectEntry
  pub is : slice_get schema.objects o ≡ Some object
  pub relation : s.relation ≡ object.relation
  pub columns : map (column_of object) attributes ≡ map Some s.columns

-- the task's row is row i, among the rows of m
pub record IsTaskRowOf (schema : SchemaValue) (t : Tab) (m i : ℕ) (r : TaskRow) : Type 0 where
  pub attributes : FinSet nat_cmp
  pub essential : (c : ℕ) → IsTrue (contains attributes c) ↔ IsEssential t m i c
  pub cells : r.cells ≡ map (cell_at (row_of t i)) (numbers_in attributes t.width)
  pub from : (s : Source) → Contains r.sources s → (o : ℕ) × IsSource schema t m i o × IsSourceOf schema (numbers_in attributes t.width) o s
  pub all : (o : ℕ) → IsSource schema t m i o → (s : Source) × Contains r.sources s × IsSourceOf schema (numbers_in attributes t.width) o s

-- comparison i of a tableau: its sides stand behind the outputs
abbrev pub comparison_at : Tab → ℕ → Compared
comparison_at t i = record { left = get_or t.head (t.outputs + 2 * i) (Var 0); op = get_or t.operators i Equal; right = get_or t.head (t.outputs + 2 * i + 1) (Var 0) }

-- the task joins the rows of m and gives the tableau's outputs
pub record IsTaskOf (schema : SchemaValue) (t : Tab) (m : ℕ) (task : Task) : Type 0 where
  pub rows : AllZip (IsTaskRowOf schema t m) (row_numbers t m) task.rows
  pub outputs : task.outputs ≡ take t.outputs t.head
  pub comparisons : task.comparisons ≡ map (comparison_at t) (range_with_len 0 (length t.operators))
