use Rattle.std.proofs.Common.{◌≡◌, drop}
use Rattle.su_draw.specs.inside.Lay.{column_from}
use Rattle.su_draw.proofs.tables.column_at.Given as goal

abbrev pub invariant-loop-column : goal.invariant-loop-column
invariant-loop-column l = column_from l.left (drop l.column-index l.columns) l.name ≡ column_from l.first l.columns l.name
