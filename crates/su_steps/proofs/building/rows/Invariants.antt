use Rattle.std.proofs.Common.{◌≡◌, ◌++◌, ◌+◌, ◌*◌, drop}
use Rattle.su_steps.specs.CaseTableaux.{rows_of}
use Rattle.su_steps.specs.inside.Numbers.{class_name}
use Rattle.su_steps.proofs.building.rows.Given as goal

abbrev pub invariant-loop-origin : goal.invariant-loop-origin
invariant-loop-origin l = record {
  own_is : l.own ≡ l.variables * l.classes.width + l.origin-index * l.classes.width;
  rest : l.rows ++ rows_of l.schema (class_name (l.variables * l.classes.width) l.classes) l.own (drop l.origin-index l.origins) ≡ rows_of l.schema (class_name (l.variables * l.classes.width) l.classes) (l.variables * l.classes.width) l.origins;
}
