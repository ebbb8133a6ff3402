use Rattle.std.proofs.Common.{◌≡◌, ℕ, ◌<◌, length, get_or, []}
use Rattle.su_refute.specs.inside.Nets.{AreTold}
use Rattle.su_refute.proofs.nets.told_of.Given as goal

abbrev pub invariant-loop-target : goal.invariant-loop-target
invariant-loop-target l = record {
  one_each : length l.lists ≡ l.target;
  told : (j : ℕ) → j < l.target → AreTold l.t l.mask l.row j (get_or l.lists j []);
}
