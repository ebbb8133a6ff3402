-- The object shares with others what it has in common with their attributes, and one of them has all that.
use Rattle.std.proofs.Common.{sym}
use Rattle.su_base.proofs.Subsets.{set_at_read}
use Rattle.su_advise.proofs.EarSteps.{ear_iff}
use Rattle.su_advise.proofs.cycles.is_ear.Goals as goal

pub returns-then-contains : goal.returns-then-contains
returns-then-contains c =
    ear_iff _ _ _ _ _ _ _ _ c.requires.within c.leave_out-others.ensures c.attributes_of.ensures (sym (set_at_read _ _ _ c.requires.in_range c.index-objects-o.is)) c.meet-shared.ensures (sym c.if-contains.ensures) c.is_held.ensures
