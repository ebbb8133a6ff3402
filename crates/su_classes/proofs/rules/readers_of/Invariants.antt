use Rattle.std.proofs.Common.{◌≡◌, ◌<◌, length}
use Rattle.std.specs.Prelude.{All}
use Rattle.su_classes.proofs.rules.readers_of.Given as goal

abbrev pub invariant-loop-a : goal.invariant-loop-a
invariant-loop-a l = record {
  each : length l.list ≡ l.a;
  within : All (All (λ r. r < length l.rules)) l.list;
}
