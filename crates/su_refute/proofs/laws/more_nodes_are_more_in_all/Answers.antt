-- A row has one tree, so the trees of the first tableaux are the first of the trees of all.
use Rattle.su_refute.proofs.TreeLists.{more_in_all}
use Rattle.su_refute.proofs.laws.more_nodes_are_more_in_all.Goals as goal

pub returns : goal.returns
returns c = more_in_all
