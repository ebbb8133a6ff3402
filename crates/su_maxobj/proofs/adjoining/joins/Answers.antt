-- An object may join where it isn't a member and hangs together with the attributes of the members, which are given.
use Rattle.std.proofs.Common.{sym}
use Rattle.su_base.proofs.Subsets.{set_at_read}
use Rattle.su_maxobj.proofs.HangingSets.{joins_by}
use Rattle.su_maxobj.proofs.adjoining.joins.Goals as goal

pub returns : goal.returns
returns c =
    joins_by _ _ _ _ _ _ c.requires.members (set_at_read _ _ _ c.requires.in_range c.index-objects-object.is) (sym c.if-contains.ensures) _ c.hang_together.ensures
