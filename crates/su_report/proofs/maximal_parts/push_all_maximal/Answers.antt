-- What was told so far is a front of what is told of all, whatever follows.
use Rattle.std.proofs.Common.{arith}
use Rattle.su_report.proofs.Hanging.{hung_none, hung_next, hung_all}
use Rattle.su_report.proofs.maximal_parts.push_all_maximal.Goals as goal

pub loop-k-init : goal.loop-k-init
loop-k-init c = hung_none c.args.schema.now c.args.maximal.now c.args.out.now.items

pub returns : goal.returns
returns c = hung_all c.args.schema.now c.args.maximal.now c.loop-k.k c.loop-k.fault c.args.out.now.items c.loop-k.out.items (omega arith) c.loop-k.invariant

pub loop-k-preserved : goal.loop-k-preserved
loop-k-preserved c = hung_next c.args.schema.now c.args.maximal.now c.loop-k.k c.index-maximal-k.result c.loop-k-test.true c.index-maximal-k.is c.loop-k.fault c.in_ok-fault.field-0 c.args.out.now.items c.loop-k.out.items c.push_maximal.new.out.items c.loop-k.invariant c.in_ok-fault.ensures
