use Rattle.std.proofs.Common.{◌≡◌}
use Rattle.su_check.specs.Certificate.{lines_of}
use Rattle.su_check.specs.inside.Boards.{IsReady}
use Rattle.su_check.proofs.FoldTargets.{fold_sent, IntoKept}
use Rattle.su_check.proofs.folds.is_good_fold.Given as goal

abbrev pub invariant-loop-i : goal.invariant-loop-i
invariant-loop-i l = record {
  list : l.sent ≡ fold_sent l.term.fold l.i;
  into : IntoKept (lines_of l.term) l.term.fold l.i;
  ready : IsReady (lines_of l.term) l.board l.sent l.places;
}
