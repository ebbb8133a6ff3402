-- The comparison connects the first rows of its variables, so they may get one label; each variable has only one first row.
use Rattle.std.proofs.Common.{sym, ap, ◌∙◌, arith}
use Rattle.su_exec.specs.inside.Labels.{IsFirstOf, label_of}
use Rattle.su_exec.proofs.Labels.{compared_linked, first_is_one}
use Rattle.su_exec.proofs.connecting.join_compared.Goals as goal

pub returns-in_default-clause-joined : goal.returns-in_default-clause-joined
returns-in_default-clause-joined c = λ k l i j e f a b. absurd (c.in_default.ensures k i e a.stands)

pub join_first-requires-clause-row : goal.join_first-requires-clause-row
join_first-requires-clause-row c = let b = c.in-Some.ensures.first.stands.below in let n = c.requires.labels.count in omega arith

pub join_first-requires-clause-linked : goal.join_first-requires-clause-linked
join_first-requires-clause-linked c = λ l j e b.
    let f : IsFirstOf c.args.task.now c.args.compared.now.left c.in-Some.i = c.in-Some.ensures in
    compared_linked c.args.task.now f.variable l c.in-Some.i j (record { comparison = c.args.compared.now; of_task = c.requires.compared; left = f.is; right = e }) f.first b

pub returns-clause-joined : goal.returns-clause-joined
returns-clause-joined c = λ k l i j e f a b.
    let first : IsFirstOf c.args.task.now c.args.compared.now.left c.in-Some.i = c.in-Some.ensures in
    ap (label_of c.join_first.new.labels) (sym (first_is_one c.args.task.now c.args.compared.now.left c.in-Some.i k i first e a)) ∙ c.join_first.ensures.joined l j f b
