-- The cost is that of all rows or less, and no constant of the row has fewer matches; so it is within the share, which is the least of these.
use Rattle.std.proofs.Common.{length, arith}
use Rattle.std.proofs.lemmas.Option.{slice_get_within}
use Rattle.su_tableau.specs.declared.symbols.Sym.TheVariants.{Const}
use Rattle.su_index.specs.Tables.{table_at}
use Rattle.su_exec.proofs.Ways.{share_low}
use Rattle.su_exec.proofs.access.cheapest_of.Goals as goal

pub returns-clause-share : goal.returns-clause-share
returns-clause-share g c =
    let rows = (table_at (g.R.Rows.tables c.args.rows.now) c.args.source.now.relation).rows in
    share_low rows (length rows) c.loop-p.best.cost c.args.row.now.cells c.args.source.now.columns c.loop-p.invariant.few
    (λ k value column cell_is column_is. c.loop-p.invariant.all k value column (omega (arith, slice_get_within c.args.row.now.cells k (Const value) cell_is, c.loop-p-test.false, c.len-p-end.ensures)) cell_is column_is)
