use Rattle.std.proofs.Common.{◌≡◌, take, ◌++◌}
use Rattle.su_reduce.specs.Sheets.{pick}
use Rattle.su_exec.proofs.joins.add_cells.Given as goal

abbrev pub invariant-loop-p : goal.invariant-loop-p
invariant-loop-p l = l.cells.items ≡ l.initial.cells.items ++ pick (take l.p-index l.places) l.row
