use Rattle.std.proofs.Common.{◌≡◌, ◌≤◌, take}
use Rattle.su_index.specs.Matches.{matches}
use Rattle.su_plain.proofs.scanning.count_with.Given as goal

abbrev pub invariant-loop-row : goal.invariant-loop-row
invariant-loop-row l = record {
  few : l.count ≤ l.row-index;
  is : l.count ≡ matches l.column l.value (take l.row-index l.rows);
}
