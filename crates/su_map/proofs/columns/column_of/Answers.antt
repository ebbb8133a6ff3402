-- No cell before this one holds the variable, so the first one that is met is the first column that has it.
use Rattle.std.proofs.Common.{◌∙◌, ap}
use Rattle.su_tableau.specs.declared.symbols.Sym.TheVariants.{Var}
use Rattle.su_map.proofs.Cells.{cell_read}
use Rattle.su_map.proofs.columns.column_of.Goals as goal

pub returns-then-j-k-clause-some : goal.returns-then-j-k-clause-some
returns-then-j-k-clause-some c = record {
  cell = cell_read c.args.row.now c.loop-c.c c.index-row-c.result (Var c.args.k) c.loop-c-test.true c.index-row-c.is (c.in-Var.is ∙ ap Var c.if-j-k.true);
  first = λ i l cell. c.loop-c.invariant i l (cell.is (Var c.args.k));
}
