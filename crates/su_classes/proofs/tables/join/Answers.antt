-- The roots have the labels of their items, so putting one below the other is what makes the two items equal, and the classes are one less; where the roots are one nothing is to do.
use Rattle.std.proofs.Common.{arith}
use Rattle.su_classes.proofs.Merges.{joined_same, progress_same_roots, joined_left, progress_left, joined_right, progress_right}
use Rattle.su_classes.proofs.tables.join.Goals as goal

pub returns-then-left-right-clause-joining : goal.returns-then-left-right-clause-joining
returns-then-left-right-clause-joining c =
    joined_same c.args.table.now c.root-left.new.table c.root-right.new.table c.args.x c.args.y c.root-left.result c.root-right.result c.root-left.ensures.shortened c.root-right.ensures.shortened c.root-left.ensures.of c.root-right.ensures.of c.if-left-right.true

pub returns-then-left-right-clause-progress : goal.returns-then-left-right-clause-progress
returns-then-left-right-clause-progress c =
    progress_same_roots c.args.table.now c.root-left.new.table c.root-right.new.table c.args.x c.args.y c.root-left.result c.root-right.result c.root-left.ensures.shortened c.root-right.ensures.shortened c.root-left.ensures.of c.root-right.ensures.of

pub returns-then-left-right-2-clause-joining : goal.returns-then-left-right-2-clause-joining
returns-then-left-right-2-clause-joining c =
    joined_left c.args.table.now c.root-left.new.table c.root-right.new.table c.args.x c.args.y c.root-left.result c.root-right.result c.root-left.ensures.shortened c.root-right.ensures.shortened c.root-left.ensures.of c.root-right.ensures.of c.root-left.ensures.root c.root-right.ensures.root (omega arith) (omega arith) c.if-left-right-2.true

pub returns-then-left-right-2-clause-progress : goal.returns-then-left-right-2-clause-progress
returns-then-left-right-2-clause-progress c =
    progress_left c.args.table.now c.root-left.new.table c.root-right.new.table c.args.x c.args.y c.root-left.result c.root-right.result c.root-left.ensures.shortened c.root-right.ensures.shortened c.root-left.ensures.of c.root-right.ensures.of c.root-left.ensures.root c.root-right.ensures.root (omega arith) (omega arith) c.if-left-right-2.true

pub returns-else-left-right-2-clause-joining : goal.returns-else-left-right-2-clause-joining
returns-else-left-right-2-clause-joining c =
    joined_right c.args.table.now c.root-left.new.table c.root-right.new.table c.args.x c.args.y c.root-left.result c.root-right.result c.root-left.ensures.shortened c.root-right.ensures.shortened c.root-left.ensures.of c.root-right.ensures.of c.root-left.ensures.root c.root-right.ensures.root (omega arith) (omega arith) (omega arith)

pub returns-else-left-right-2-clause-progress : goal.returns-else-left-right-2-clause-progress
returns-else-left-right-2-clause-progress c =
    progress_right c.args.table.now c.root-left.new.table c.root-right.new.table c.args.x c.args.y c.root-left.result c.root-right.result c.root-left.ensures.shortened c.root-right.ensures.shortened c.root-left.ensures.of c.root-right.ensures.of c.root-left.ensures.root c.root-right.ensures.root (omega arith) (omega arith) (omega arith)
