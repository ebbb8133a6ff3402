use Rattle.std.proofs.Common.{◌≡◌, []}
use Rattle.su_check.specs.Certificate.{lines_of}
use Rattle.su_check.specs.inside.Boards.{IsReady}
use Rattle.su_check.proofs.PossibleTargets.{HasTried}
use Rattle.su_check.proofs.guides.alone.Given as goal

abbrev pub invariant-loop-target : goal.invariant-loop-target
invariant-loop-target l = record {
  none : l.sent ≡ [];
  ready : IsReady (lines_of l.term) l.board [] l.places;
  done : HasTried (lines_of l.term) l.row l.target-index l.set;
}
