use Rattle.std.proofs.Common.{length}
use Rattle.su_faults.proofs.choosing.+chosen.Given as goal

abbrev pub decreases-chosen : goal.decreases-chosen
decreases-chosen l = length l.choices.now
