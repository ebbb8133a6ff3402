use Rattle.std.proofs.Common.{length}
use Rattle.su_clash.specs.inside.Renames.{IsRefutation}
use Rattle.su_clash.proofs.thinning.thinned.Given as goal

abbrev pub invariant-loop-last : goal.invariant-loop-last
invariant-loop-last l = IsRefutation l.fds l.rows l.last

abbrev pub decreases-loop-last : goal.decreases-loop-last
decreases-loop-last l = length l.last.steps
