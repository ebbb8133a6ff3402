use Rattle.std.proofs.Common.{length}
use Rattle.su_places.proofs.kinds.+is_wanted.Given as goal

abbrev pub decreases-is_wanted : goal.decreases-is_wanted
decreases-is_wanted l = length l.wanted.now
