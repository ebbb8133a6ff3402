use Rattle.std.proofs.Common.{◌≡◌, ◌<◌, ℕ, [], length, get_or}
use Rattle.su_check.specs.Certificate.{lines_of}
use Rattle.su_check.specs.inside.Boards.{IsReady}
use Rattle.su_check.specs.inside.Guides.{HasTargets}
use Rattle.su_check.proofs.guides.guide_of.Given as goal

abbrev pub invariant-loop-i : goal.invariant-loop-i
invariant-loop-i l = record {
  one_each : length l.sets ≡ l.i;
  alone : (s : ℕ) → s < l.i → HasTargets (lines_of l.term) [] s (get_or l.sets s 0);
  ready : IsReady (lines_of l.term) l.board [] l.places;
}
