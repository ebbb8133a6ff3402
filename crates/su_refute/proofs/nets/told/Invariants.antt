use Rattle.std.proofs.Common.{◌≡◌, ℕ, ◌<◌, length, get_or}
use Rattle.su_refute.specs.inside.Nets.{IsTold}
use Rattle.su_refute.proofs.nets.told.Given as goal

abbrev pub invariant-loop-list : goal.invariant-loop-list
invariant-loop-list l = record {
  one_each : length l.sets ≡ l.list-index;
  told : (q : ℕ) → q < l.list-index → IsTold l.t l.mask l.row l.target q (get_or l.sets q 0);
}
