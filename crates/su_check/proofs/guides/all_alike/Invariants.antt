use Rattle.std.proofs.Common.{◌≡◌, ◌<◌, ℕ, [], length, get_or}
use Rattle.su_check.specs.inside.Guides.{AreAlike}
use Rattle.su_check.proofs.guides.all_alike.Given as goal

abbrev pub invariant-loop-i : goal.invariant-loop-i
invariant-loop-i l = record {
  one_each : length l.all ≡ l.i;
  rows : (i : ℕ) → i < l.i → AreAlike l.rows (get_or l.rows i []) (get_or l.all i []);
}
