-- What is left so far agrees with the target at the columns so far, of which each cuts down the set by its own column; after all it agrees in all that is shared.
use Rattle.std.proofs.Common.{arith}
use Rattle.su_map.proofs.AgreementTable.{told_none, told_next, told_all}
use Rattle.su_map.proofs.tables.agreeing.Goals as goal

pub loop-e-init : goal.loop-e-init
loop-e-init c = told_none c.args.to.now c.args.columns.now c.args.target c.args.set

pub agreeing_at-left-requires-clause-shared : goal.agreeing_at-left-requires-clause-shared
agreeing_at-left-requires-clause-shared c = λ a is. c.requires.columns c.loop-e.e a (omega arith) is

pub agreeing_at-left-requires-clause-within : goal.agreeing_at-left-requires-clause-within
agreeing_at-left-requires-clause-within c = λ j h. c.requires.within j ((c.loop-e.invariant j).0 h).0

pub loop-e-preserved : goal.loop-e-preserved
loop-e-preserved c = told_next c.args.to.now c.args.columns.now c.args.target c.args.set c.loop-e.e c.loop-e.left c.agreeing_at-left.result c.loop-e.invariant c.agreeing_at-left.ensures

pub returns : goal.returns
returns c = told_all c.args.to.now c.args.columns.now c.args.target c.args.set c.loop-e.e c.loop-e.left (omega arith) (omega arith) c.loop-e.invariant
