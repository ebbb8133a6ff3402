-- A mapping sends the head to the head and each masked row to a target of its own; so a head that doesn't fit or a row without a target shows that there is none.
use Rattle.std.proofs.Common.{◌∙◌, sym, true≢false}
use Rattle.su_map.proofs.RowTargets.{heads_are, mapping_head, mapping_target}
use Rattle.su_map.proofs.nets.fill_own.Goals as goal

pub returns-then-not-line_fits-clause-none : goal.returns-then-not-line_fits-clause-none
returns-then-not-line_fits-clause-none c = λ no' list f.
    let h = mapping_head c.args.from.now c.args.to.now c.args.from_mask c.args.to_mask list f in
    true≢false (sym (c.line_fits.ensures.1 (heads_are c.args.from.now.head c.args.to.now.head c.head.result.now c.head-2.result.now (sym c.head.ensures) (sym c.head-2.ensures) h)) ∙ c.if-not-line_fits.true)

pub fill_base-requires-clause-head_agrees : goal.fill_base-requires-clause-head_agrees
fill_base-requires-clause-head_agrees c = (heads_are c.head.result.now c.head-2.result.now c.args.from.now.head c.args.to.now.head c.head.ensures c.head-2.ensures (c.line_fits.ensures.0 c.if-not-line_fits.false)).1

pub returns-then-not-fill_base-clause-none : goal.returns-then-not-fill_base-clause-none
returns-then-not-fill_base-clause-none c = λ no' list f.
    let n = c.fill_base.ensures.none c.if-not-fill_base.true in
    mapping_target c.args.from.now c.args.to.now c.args.from_mask c.args.to_mask list f n.0 n.1 n.2 n.3

pub returns-clause-heads : goal.returns-clause-heads
returns-clause-heads c = λ _. heads_are c.head.result.now c.head-2.result.now c.args.from.now.head c.args.to.now.head c.head.ensures c.head-2.ensures (c.line_fits.ensures.0 c.if-not-line_fits.false)
