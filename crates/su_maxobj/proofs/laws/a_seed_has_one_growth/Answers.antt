-- Only one object is the first that may join, so each step is settled.
use Rattle.su_maxobj.proofs.GrowthSteps.{one_growth}
use Rattle.su_maxobj.proofs.laws.a_seed_has_one_growth.Goals as goal

pub returns : goal.returns
returns c = one_growth
