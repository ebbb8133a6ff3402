-- Where there are no dependencies, none is to be kept.
use Rattle.su_unmerged.proofs.Unmerged.{equalities_alone}
use Rattle.su_unmerged.proofs.laws.equalities_alone_merge.Goals as goal

pub returns : goal.returns
returns c = equalities_alone
