use Rattle.std.proofs.Common.{◌≡◌, ◌≤◌, drop}
use Rattle.su_draw.specs.inside.Lay.{count_from}
use Rattle.su_draw.proofs.cells.count_of.Given as goal

abbrev pub invariant-loop-cell : goal.invariant-loop-cell
invariant-loop-cell l = record {
  counted : count_from l.count (drop l.cell-index l.cells) l.symbol ≡ count_from 0 l.cells l.symbol;
  below : l.count ≤ l.cell-index;
}
