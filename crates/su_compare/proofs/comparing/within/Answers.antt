-- The verdict is that of the terms, and what it says is true of the queries.
use Rattle.su_compare.proofs.comparing.within.Goals as goal

pub returns-clause-decides : goal.returns-clause-decides
returns-clause-decides c = λ maximal p q of_p of_q. (c.verdicts_decide.ensures c.args.schema.now maximal p q c.args.first.now c.args.second.now c.in_ok-verdict.verdict c.keeps_its_rules.ensures of_p of_q c.requires.comparable c.in_ok-verdict.ensures).decides

pub returns-clause-apart : goal.returns-clause-apart
returns-clause-apart c = λ maximal p q of_p of_q. (c.verdicts_decide.ensures c.args.schema.now maximal p q c.args.first.now c.args.second.now c.in_ok-verdict.verdict c.keeps_its_rules.ensures of_p of_q c.requires.comparable c.in_ok-verdict.ensures).apart
