use Rattle.std.proofs.Common.{◌≡◌, ◌≤◌, ◌++◌, map, take, length}
use Rattle.su_check.specs.Grammar.{tree_line}
use Rattle.su_refute.specs.Written.{lines_text, row_trees}
use Rattle.su_refute.proofs.writing.push_trees.Given as goal

abbrev pub invariant-loop-i : goal.invariant-loop-i
invariant-loop-i l = record {
  within : l.i ≤ length l.trees;
  text : l.out.items ≡ l.fn.out.items ++ lines_text (map tree_line (row_trees (take l.i l.kept) (take l.i l.trees)));
}
