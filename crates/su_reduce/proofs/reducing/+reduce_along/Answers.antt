-- What an ear shares with the edges behind it, its parent has; so the parent is joined with it, the edges behind are reduced, and the ear is joined with what its parent has left.
use Rattle.std.proofs.Common.{◌≡◌, ◌-◌, List, take, drop, length, take_all, ap, ◌∙◌, arith}
use Rattle.std.proofs.lemmas.List.{length-drop}
use Rattle.su_reduce.specs.declared.edges.Ear.{Ear}
use Rattle.su_reduce.proofs.EarSteps.{first_low, next_low, later_ears, later_within, reduced}
use Rattle.su_reduce.proofs.reducing.+reduce_along.Goals as goal

pub semijoin-requires-clause-below : goal.semijoin-requires-clause-below
semijoin-requires-clause-below t c =
    let few = c.if-order-lt2.false in
    let low = next_low c.args.edges.now c.args.order.now (omega (arith, few)) c.requires.ears c.requires.within in
    let first = first_low c.args.edges.now c.args.order.now (omega (arith, few)) c.requires.within in
    let is = c.parent_or_next-parent.ensures in
    (omega (arith, low, first, is), omega (arith, low, first, is))

pub reduce_along-requires : goal.reduce_along-requires
reduce_along-requires t c =
    let edges = c.args.edges.now in
    let order = c.args.order.now in
    let few = c.if-order-lt2.false in
    let shorter = length-drop 1 order in
    let tail : take (length order - 1) (drop 1 order) ≡ drop 1 order = take_all (length order - 1) (drop 1 order) (omega (arith, shorter)) in
    let long : length (take (length order - 1) (drop 1 order)) ≡ length order - 1 = ap (λ (ears : List Ear). length ears) tail ∙ shorter in (
      omega (arith, few, long, c.decreases),
      (
        later_ears edges order (take (length order - 1) (drop 1 order)) few tail c.requires.ears,
        (later_within edges order (take (length order - 1) (drop 1 order)) few tail c.requires.within, (c.requires.sheets, c.in_ok-semijoin.ensures.marks)),
      ),
    )

pub semijoin-requires-2-clause-below : goal.semijoin-requires-2-clause-below
semijoin-requires-2-clause-below t c =
    let few = c.if-order-lt2.false in
    let low = next_low c.args.edges.now c.args.order.now (omega (arith, few)) c.requires.ears c.requires.within in
    let first = first_low c.args.edges.now c.args.order.now (omega (arith, few)) c.requires.within in
    let is = c.parent_or_next-parent.ensures in
    (omega (arith, low, first, is), omega (arith, low, first, is))

pub returns : goal.returns
returns t c =
    let order = c.args.order.now in
    let few = c.if-order-lt2.false in
    let shorter = length-drop 1 order in
    reduced c.args.edges.now order (take (length order - 1) (drop 1 order)) c.parent_or_next-parent.result c.args.marks.now c.semijoin.new.marks c.reduce_along.new.marks c.semijoin-2.new.marks few
    (take_all (length order - 1) (drop 1 order) (omega (arith, shorter))) c.parent_or_next-parent.ensures c.requires.ears c.requires.within c.in_ok-semijoin.ensures c.in_ok-reduce_along.ensures c.in_ok-semijoin-2.ensures
