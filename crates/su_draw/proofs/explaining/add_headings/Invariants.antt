use Rattle.std.proofs.Common.{◌≡◌, ◌++◌, map, take}
use Rattle.su_draw.specs.inside.Lay.{heading_over}
use Rattle.su_draw.proofs.explaining.add_headings.Given as goal

abbrev pub invariant-loop-column : goal.invariant-loop-column
invariant-loop-column l = l.helps ≡ l.fn.helps ++ map (λ c. heading_over l.y l.table c.name) (take l.column-index l.table.columns)
