-- Before the first attribute there is the empty set alone; each attribute makes a round.
use Rattle.std.proofs.Common.{refl}
use Rattle.su_advise.proofs.SubsetRounds.{subsets_start, round}
use Rattle.su_advise.proofs.doubling.subsets.Goals as goal

pub loop-a-init : goal.loop-a-init
loop-a-init c = subsets_start _ (rw (c.in_ok-push.ensures.ok, c.new-sets.ensures, c.empty.ensures) refl)

pub loop-a-preserved : goal.loop-a-preserved
loop-a-preserved c = round c.args.members.now c.loop-a.a-index _ _ _ c.requires.ascend c.loop-a-test.true refl c.loop-a.invariant c.in_ok-double.ensures
