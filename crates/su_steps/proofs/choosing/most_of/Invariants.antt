use Rattle.std.proofs.Common.{◌≡◌, ◌≤◌, take}
use Rattle.su_steps.specs.inside.RowCounts.{most_objects}
use Rattle.su_steps.proofs.choosing.most_of.Given as goal

abbrev pub invariant-loop-m : goal.invariant-loop-m
invariant-loop-m l = record {
  is : l.most ≡ most_objects l.schema l.maximal (take l.m-index l.numbers);
  few : l.most ≤ 64;
}
