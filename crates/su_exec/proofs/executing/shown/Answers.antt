-- What is shown follows what merging came to: the edge's answers, too many of them, or none.
use Rattle.su_exec.proofs.Outputs.{whole_more, whole_shown}
use Rattle.su_exec.proofs.executing.shown.Goals as goal

pub answers-requires : goal.answers-requires
answers-requires c = rw c.in-Whole.is at c.requires

pub returns-in-Whole-clause-shown : goal.returns-in-Whole-clause-shown
returns-in-Whole-clause-shown c = whole_shown c.args.codes.now c.args.outputs.now c.in-Whole.last c.args.merged c.answers.result c.in-Whole.is c.answers.ensures.exact c.answers.ensures.ascending

pub returns-in-Whole-clause-more : goal.returns-in-Whole-clause-more
returns-in-Whole-clause-more c = whole_more c.args.codes.now c.args.outputs.now c.args.cap c.in-Whole.last c.args.merged c.answers.result c.in-Whole.is c.answers.ensures.more

pub returns-in-Over-clause-more : goal.returns-in-Over-clause-more
returns-in-Over-clause-more c = λ e. rw c.in-Over.is tt

pub returns-in-Nothing-clause-shown : goal.returns-in-Nothing-clause-shown
returns-in-Nothing-clause-shown c = rw c.in-Nothing.is c.new.ensures
