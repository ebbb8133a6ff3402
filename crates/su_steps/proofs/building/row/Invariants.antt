use Rattle.std.proofs.Common.{◌≡◌, ◌*◌, map}
use Rattle.std.specs.List.{range_with_len}
use Rattle.su_steps.specs.CaseTableaux.{cell_of}
use Rattle.su_steps.specs.inside.Numbers.{class_name}
use Rattle.su_steps.proofs.building.row.Given as goal

abbrev pub invariant-loop-a : goal.invariant-loop-a
invariant-loop-a l = l.cells ≡ map (cell_of l.schema (class_name (l.variables * l.classes.width) l.classes) l.own l.origin) (range_with_len 0 l.a)
