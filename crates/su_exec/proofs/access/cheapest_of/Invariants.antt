use Rattle.std.proofs.Common.{◌≡◌, ◌<◌, ◌≤◌, ℕ, Some, length, slice_get}
use Rattle.su_base.specs.declared.values.Value.{Value}
use Rattle.su_tableau.specs.declared.symbols.Sym.TheVariants.{Const}
use Rattle.su_index.specs.Matches.{matches}
use Rattle.su_index.specs.Tables.{table_at}
use Rattle.su_exec.specs.inside.Ways.{IsCheapest}
use Rattle.su_exec.proofs.access.cheapest_of.Given as goal

abbrev pub invariant-loop-p : goal.invariant-loop-p
invariant-loop-p g l = record {
  way : IsCheapest (g.R.Rows.tables l.rows) l.row l.source l.best;
  few : l.best.cost ≤ length (table_at (g.R.Rows.tables l.rows) l.source.relation).rows;
  all : (k : ℕ) (value : Value) (column : ℕ) → k < l.p → slice_get l.row.cells k ≡ Some (Const value) → slice_get l.source.columns k ≡ Some column → l.best.cost ≤ matches column value (table_at (g.R.Rows.tables l.rows) l.source.relation).rows;
}
