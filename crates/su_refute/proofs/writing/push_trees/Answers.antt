-- What is written are the lines of the rows and trees so far, paired one by one; the pairs end where either list ends.
use Rattle.std.proofs.Common.{inl, inr, arith}
use Rattle.su_refute.proofs.Texts.{trees_next, trees_done}
use Rattle.su_refute.proofs.writing.push_trees.Goals as goal

pub returns-then-i-trees : goal.returns-then-i-trees
returns-then-i-trees c = trees_done c.args.out.now.items c.loop-i.out.items c.args.kept.now c.args.trees.now c.loop-i.i (inr (let e = c.if-i-trees.true in omega arith)) c.loop-i.invariant.text

pub loop-i-preserved : goal.loop-i-preserved
loop-i-preserved c = record {
  within = let w = c.loop-i.invariant.within in let n = c.if-i-trees.false in omega arith;
  text =
      trees_next c.args.out.now.items c.loop-i.out.items c.push_tree.new.out.items c.args.kept.now c.args.trees.now c.loop-i.i c.index-trees-i.result c.loop-i-test.true (let w = c.loop-i.invariant.within in let n = c.if-i-trees.false in omega arith) c.index-trees-i.is c.loop-i.invariant.text c.in_ok-push_tree.ensures;
}

pub returns : goal.returns
returns c = trees_done c.args.out.now.items c.loop-i.out.items c.args.kept.now c.args.trees.now c.loop-i.i (inl (let e = c.loop-i-test.false in omega arith)) c.loop-i.invariant.text
