-- A mark pushed for each term, so the marks tell which are dropped.
use Rattle.std.proofs.Common.{length}
use Rattle.su_min.specs.inside.Matrix.{entry, IsDroppedIn}
use Rattle.su_min.proofs.MatrixRows.{marks_more}
use Rattle.su_min.proofs.reducing.dropped_terms.Goals as goal

pub loop-i-preserved : goal.loop-i-preserved
loop-i-preserved c = marks_more (IsDroppedIn (entry c.args.matrix.now) (length c.args.matrix.now)) c.loop-i.i c.loop-i.dropped c.push.new.self c.is_dropped.result c.in_ok-push.ensures.ok c.is_dropped.ensures c.loop-i.invariant
