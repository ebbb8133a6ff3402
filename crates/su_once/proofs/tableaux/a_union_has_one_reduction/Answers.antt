-- Kept and dropped terms are listed in one way, and each dropped one has one least cover.
use Rattle.su_once.proofs.Mapped.{one_reduced}
use Rattle.su_once.proofs.tableaux.a_union_has_one_reduction.Goals as goal

pub returns : goal.returns
returns c = one_reduced
