-- The trees of minimised tableaux.
-- one list for each tableau, and in it a tree for each kept row, in their order
-- minimised: with the kept rows marked; a kept row's tree shows that the others don't do without it
use Rattle.std.specs.Prelude.{ℕ, ◌<◌, List, take}
use Rattle.std.specs.List.{AllZip, sum_by}
use Rattle.su_tableau.specs.Tableaux.{IsValid, IsSmall}
use Rattle.su_map.specs.Lists.{row_numbers}
use Rattle.su_check.specs.declared.nodes.Node.{Node}
use Rattle.su_check.specs.SentRows.{Lines}
use Rattle.su_min.specs.Kept.{Minimised, IsMinimised}
use Rattle.su_refute.specs.Trees.{lines_in, IsTree, node_count}

-- what the type of a minimised tableau keeps
pub record IsSound (m : Minimised) : Type 0 where
  pub valid : IsValid m.tableau
  pub small : IsSmall m.tableau
  pub minimised : IsMinimised m

-- the rows, the head and the kept rows of a minimised term
abbrev pub lines_of : Minimised → Lines
lines_of m = lines_in m.tableau m.mask

-- the trees of the kept rows of one tableau
abbrev pub AreTreesOf : Minimised → List Node → Type 0
AreTreesOf m trees = AllZip (IsTree (lines_of m)) (row_numbers m.tableau m.mask) trees

-- those of each tableau
abbrev pub AreTrees : List Minimised → List (List Node) → Type 0
AreTrees minimals trees = AllZip AreTreesOf minimals trees

-- the nodes of all trees
abbrev pub nodes_in : List Node → ℕ
nodes_in trees = sum_by node_count trees

-- how many nodes all trees have together
abbrev pub all_nodes : List (List Node) → ℕ
all_nodes trees = sum_by nodes_in trees

-- the tree of the row has more than n nodes
pub record HasLargerTree (m : Minimised) (r n : ℕ) : Type 0 where
  pub tree : Node
  pub is_tree : IsTree (lines_of m) r tree
  pub more : n < node_count tree

-- the trees of the tableaux together have more than n nodes: those of the first ones have already
pub record HasMoreNodes (minimals : List Minimised) (n : ℕ) : Type 0 where
  pub first : ℕ
  pub trees : List (List Node)
  pub are_trees : AreTrees (take first minimals) trees
  pub more : n < all_nodes trees
