use Rattle.std.proofs.Common.{◌≡◌, ℕ, ◌<◌, length, get_or, []}
use Rattle.su_map.specs.Lists.{row_of}
use Rattle.su_refute.specs.inside.Nets.{AreShared}
use Rattle.su_refute.proofs.nets.all_shared.Given as goal

abbrev pub invariant-loop-q : goal.invariant-loop-q
invariant-loop-q l = record {
  one_each : length l.lists ≡ l.q;
  shared : (q : ℕ) → q < l.q → AreShared (row_of l.t l.row) (row_of l.t q) (get_or l.lists q []);
}
