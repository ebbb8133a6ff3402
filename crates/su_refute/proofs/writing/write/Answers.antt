-- What is written is the front and the lines of the terms so far, numbered from 0.
use Rattle.su_refute.specs.inside.Fronts.{front_text}
use Rattle.su_refute.proofs.Texts.{terms_next}
use Rattle.su_refute.proofs.writing.write.Goals as goal

pub loop-i-preserved : goal.loop-i-preserved
loop-i-preserved c = terms_next (front_text c.args.kinds.now) c.loop-i.out.items c.push_term.new.out.items c.args.minimals.now c.args.trees.now c.loop-i.i c.index-minimals-i.result c.trees_at.result.now c.loop-i-test.true c.index-minimals-i.is c.trees_at.ensures c.loop-i.invariant c.in_ok-push_term.ensures
