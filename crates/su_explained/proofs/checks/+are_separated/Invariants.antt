use Rattle.std.proofs.Common.{length}
use Rattle.su_explained.proofs.checks.+are_separated.Given as goal

abbrev pub decreases-are_separated : goal.decreases-are_separated
decreases-are_separated l = length l.words.now
