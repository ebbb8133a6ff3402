use Rattle.su_check.specs.Certificate.{lines_of}
use Rattle.su_check.specs.inside.Guides.{HasTargets}
use Rattle.su_check.proofs.guides.candidates.Given as goal

abbrev pub invariant-loop-at_column : goal.invariant-loop-at_column
invariant-loop-at_column l = HasTargets (lines_of l.term) l.sent l.row l.set
