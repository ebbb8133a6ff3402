-- The row has the variable or is compared with it, so it is connected to the first row with it, and one label for both is right.
use Rattle.std.proofs.Common.{sym, ap, ◌∙◌, arith}
use Rattle.su_exec.specs.inside.Labels.{IsFirstOf, label_of, relabelled}
use Rattle.su_exec.proofs.Labels.{first_is_one, relabelled_joins, relabelled_keeps, relabelled_labels}
use Rattle.su_exec.proofs.connecting.join_first.Goals as goal

pub returns-in_default-clause-joined : goal.returns-in_default-clause-joined
returns-in_default-clause-joined c = λ k first e is. absurd (c.in_default.ensures k first e is.stands)

pub join_labels-requires-clause-first : goal.join_labels-requires-clause-first
join_labels-requires-clause-first c = let b = c.in-Some.ensures.first.stands.below in let n = c.requires.labels.count in omega arith

pub returns-clause-labels : goal.returns-clause-labels
returns-clause-labels c =
    let task = c.args.task.now in
    let ls = c.args.labels.now in
    let first = c.in-Some.first in
    let f : IsFirstOf task c.args.symbol.now first = c.in-Some.ensures in
    let b = f.first.stands.below in
    let n = c.requires.labels.count in
    rw c.join_labels.ensures (relabelled_labels task ls first c.args.i (omega arith) c.requires.row c.requires.labels (c.requires.linked f.variable first f.is f.first))

pub returns-clause-kept : goal.returns-clause-kept
returns-clause-kept c = rw c.join_labels.ensures (relabelled_keeps c.args.task.now c.args.labels.now c.in-Some.first c.args.i)

pub returns-clause-joined : goal.returns-clause-joined
returns-clause-joined c = λ k j e is.
    let task = c.args.task.now in
    let ls = c.args.labels.now in
    let first = c.in-Some.first in
    let f : IsFirstOf task c.args.symbol.now first = c.in-Some.ensures in
    let b = f.first.stands.below in
    let n = c.requires.labels.count in
    rw c.join_labels.ensures (sym (relabelled_joins task ls first c.args.i (omega arith) c.requires.row) ∙ ap (label_of (relabelled ls first c.args.i)) (first_is_one task c.args.symbol.now first k j f e is))
