-- Each node's row is settled by the targets left, and so are its branches.
use Rattle.su_refute.proofs.Kept.{has_one_tree}
use Rattle.su_refute.proofs.laws.a_kept_row_has_one_tree.Goals as goal

pub returns : goal.returns
returns c = has_one_tree
