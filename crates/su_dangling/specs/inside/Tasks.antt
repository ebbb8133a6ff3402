-- The join of views as a task: a row of variables for each object, whose source are its relation's columns.
-- variable a stands for attribute a; entry: the object's, as the schema has it
-- No public contract cites this module.
use Rattle.std.specs.Prelude.{◌≡◌, ℕ, List, [], ◌∷◌, length, map, slice_get, Some}
use Rattle.std.specs.List.{AllZip}
use Rattle.std.specs.Ordering.{nat_cmp}
use Rattle.std.specs.FinSet.{FinSet}
use Rattle.su_tableau.specs.declared.symbols.Sym.{Sym}
use Rattle.su_tableau.specs.declared.symbols.Sym.TheVariants.{Var}
use Rattle.su_schema.specs.SchemaValue.{SchemaValue, ObjectEntry}
use Rattle.su_schema.specs.Entries.{attributes_of, column_of}
use Rattle.su_schema.specs.Cuts.{attributes_at}
use Rattle.su_schema.specs.SetMembers.{numbers_in}
use Rattle.su_exec.specs.declared.tasks.Source.{Source}
use Rattle.su_exec.specs.declared.tasks.TaskRow.{TaskRow}
use Rattle.su_exec.specs.declared.tasks.Task.{Task}

-- the attributes as variables
abbrev pub variables_of : List ℕ → List Sym
variables_of attributes = map (λ a. Var a) attributes

-- the attributes of a set, ascending
abbrev pub members_of : SchemaValue → FinSet nat_cmp → List ℕ
members_of schema set = numbers_in set (length schema.attributes)

-- the columns are those from which object o takes the attributes
abbrev pub AreColumnsOf : SchemaValue → ℕ → List ℕ → List ℕ → Type 0
AreColumnsOf schema o attributes columns = (entry : ObjectEntry) → slice_get schema.objects o ≡ Some entry → map (column_of entry) attributes ≡ map Some columns

-- the row stands for object o
pub record IsRowFor (schema : SchemaValue) (o : ℕ) (r : TaskRow) : Type 0 where
  pub entry : ObjectEntry
  pub is : slice_get schema.objects o ≡ Some entry
  pub cells : r.cells ≡ variables_of (members_of schema (attributes_of entry))
  pub source : Source
  pub sources : r.sources ≡ source ∷ []
  pub relation : source.relation ≡ entry.relation
  pub columns : map (column_of entry) (members_of schema (attributes_of entry)) ≡ map Some source.columns

-- the task joins the views of these objects and asks for object o
pub record IsJoinOf (schema : SchemaValue) (objects : FinSet nat_cmp) (o : ℕ) (task : Task) : Type 0 where
  pub rows : AllZip (IsRowFor schema) (numbers_in objects (length schema.objects)) task.rows
  pub outputs : task.outputs ≡ variables_of (members_of schema (attributes_at schema o))
  pub comparisons : task.comparisons ≡ []
