-- By induction a condition, negated or not, is true where one of its disjuncts holds.
use Rattle.su_where.proofs.DisjunctTruth.{keeps_truth}
use Rattle.su_where.proofs.laws.disjuncts_keep_truth.Goals as goal

pub returns : goal.returns
returns c = keeps_truth c.args.cond.now
