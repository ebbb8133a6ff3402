use Rattle.std.proofs.Common.{◌≡◌, ◌+◌}
use Rattle.std.specs.List.{AllZip}
use Rattle.su_map.specs.Lists.{numbers_of}
use Rattle.su_refute.specs.Trees.{IsTree}
use Rattle.su_refute.specs.AllTrees.{lines_of, nodes_in}
use Rattle.su_refute.proofs.certifying.trees_of.Given as goal

abbrev pub invariant-loop-row : goal.invariant-loop-row
invariant-loop-row l = record {
  trees : AllZip (IsTree (lines_of l.minimal)) (numbers_of l.mask l.row) l.trees;
  counted : l.unused + nodes_in l.trees ≡ l.budget;
}
