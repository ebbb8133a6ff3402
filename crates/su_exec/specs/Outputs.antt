-- What a task gives: the outputs of its valuations.
-- valuation: a value for each variable, under which each row agrees with a stored row of one of its sources and all comparisons hold
use Rattle.std.specs.Prelude.{◌≡◌, ℕ, IsTrue, List, All, Contains}
use Rattle.su_base.specs.declared.values.Value.{Value}
use Rattle.su_rel.specs.Stored.{Stored}
use Rattle.su_rel.specs.ExactRows.{AreExactlyRows}
use Rattle.su_where.specs.Operator.{compares}
use Rattle.su_tableau.specs.Valuations.{value_of, values_of}
pub use Rattle.su_tableau.specs.Valuations.{values_at}
use Rattle.su_index.specs.Tables.{table_at}
use Rattle.su_exec.specs.declared.tasks.Source.{Source}
use Rattle.su_exec.specs.declared.tasks.TaskRow.{TaskRow}
use Rattle.su_exec.specs.declared.tasks.Compared.{Compared}
use Rattle.su_exec.specs.declared.tasks.Task.{Task}

-- the values are those of some stored row of one of the sources, in the source's columns
pub record AreFromSource (tables : List Stored) (sources : List Source) (values : List Value) : Type 0 where
  pub source : Source
  pub of_row : Contains sources source
  pub stored : List Value
  pub in_table : Contains (table_at tables source.relation).rows stored
  pub same : values_at source.columns stored ≡ values

-- under the valuation the row has the values of some stored row of one of its sources
abbrev pub Agrees : List Stored → (ℕ → Value) → TaskRow → Type 0
Agrees tables v row = AreFromSource tables row.sources (values_of v row.cells)

-- under the valuation the comparison holds
abbrev pub HoldsUnder : (ℕ → Value) → Compared → Type 0
HoldsUnder v c = IsTrue (compares c.op (value_of v c.left) (value_of v c.right))

-- h is the outputs of some valuation
pub record IsOutput (tables : List Stored) (task : Task) (h : List Value) : Type 0 where
  pub valuation : ℕ → Value
  pub agrees : All (Agrees tables valuation) task.rows
  pub holds : All (HoldsUnder valuation) task.comparisons
  pub gives : values_of valuation task.outputs ≡ h

-- exactly the outputs of all valuations, ascending, each once
abbrev pub AreOutputs : List Stored → Task → List (List Value) → Type 0
AreOutputs tables task rows = AreExactlyRows (IsOutput tables task) rows
