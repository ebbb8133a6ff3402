use Rattle.std.proofs.Common.{ℕ, ◌<◌, length}
use Rattle.std.specs.FinSet.{len}
use Rattle.su_reduce.specs.Ears.{cells_of}
use Rattle.su_reduce.specs.inside.Partners.{In}
use Rattle.su_reduce.proofs.Rounds.{IsSoFar, Reaches}
use Rattle.su_reduce.proofs.orders.ears.Given as goal

abbrev pub invariant-loop-left : goal.invariant-loop-left
invariant-loop-left l = record {
  so_far : IsSoFar (cells_of l.edges) l.left l.order;
  reaches : Reaches (cells_of l.edges) l.left;
  within : (j : ℕ) → In l.left j → j < length l.edges;
}

abbrev pub decreases-loop-left : goal.decreases-loop-left
decreases-loop-left l = len l.left
