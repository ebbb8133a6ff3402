use Rattle.std.proofs.Common.{◌≡◌, drop}
use Rattle.su_draw.specs.inside.Lay.{end_from}
use Rattle.su_draw.proofs.tables.end_of.Given as goal

abbrev pub invariant-loop-column : goal.invariant-loop-column
invariant-loop-column l = end_from l.left (drop l.column-index l.columns) ≡ end_from l.first l.columns
