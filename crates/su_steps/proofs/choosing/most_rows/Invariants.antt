use Rattle.std.proofs.Common.{◌≡◌, ◌≤◌, ◌*◌, take}
use Rattle.su_steps.specs.inside.RowCounts.{objects_in}
use Rattle.su_steps.proofs.choosing.most_rows.Given as goal

abbrev pub invariant-loop-numbers : goal.invariant-loop-numbers
invariant-loop-numbers l = record {
  is : l.rows ≡ objects_in l.schema l.maximal (take l.numbers-index l.coverings);
  few : l.rows ≤ 64 * l.numbers-index;
}
