-- Of the candidates that fit, those that the semijoins along the ear order leave are the ones that take part, and what is copied are these.
use Rattle.std.proofs.Common.{List, Bool, [], get_or, ap, subst, ◌∙◌}
use Rattle.std.proofs.lemmas.List.{with_items_is}
use Rattle.su_reduce.specs.Ears.{numbers}
use Rattle.su_reduce.specs.Left.{candidates_at, marked}
use Rattle.su_reduce.specs.inside.Marks.{marks_at}
use Rattle.su_reduce.specs.inside.Reduced.{AreReduced}
use Rattle.su_reduce.proofs.EarSteps.{within_edges, are_left}
use Rattle.su_reduce.proofs.reducing.reduce.Goals as goal

pub reduce_along-requires-clause-within : goal.reduce_along-requires-clause-within
reduce_along-requires-clause-within c = within_edges c.args.edges.now c.args.order.now c.requires.order

pub returns-clause-left : goal.returns-clause-left
returns-clause-left c =
    let edges = c.args.edges.now in
    let order = c.args.order.now in
    let last = c.reduce_along.new.marks in
    let whole = with_items_is c.in_ok-marks.marks last (c.reduce_along.auto.marks ∙ c.deref_mut.ensures.len) in
    let reduced : AreReduced edges (numbers order) c.in_ok-marks.marks.items last =
    subst (λ (ms : List (List Bool)). AreReduced edges (numbers order) ms last) c.deref_mut.ensures.value c.in_ok-reduce_along.ensures in
    λ i l. are_left edges order c.in_ok-marks.marks.items last c.requires.order c.in_ok-marks.ensures.all reduced i l (get_or c.in_ok-left.left i [])
    (c.in_ok-left.ensures.each i l ∙ ap (λ (ms : List (List Bool)). marked (marks_at ms i) (candidates_at edges i)) (c.deref-2.ensures.value ∙ whole))
