-- The domains begin as the rows' own targets, so a sending by these is one within the domains, and where narrowing leaves none there is none.
use Rattle.std.proofs.Common.{arith}
use Rattle.su_map.proofs.Sendings.{rows_copied, sending_copied}
use Rattle.su_map.proofs.nets.fill_pairs.Goals as goal

pub narrow-requires-clause-rows : goal.narrow-requires-clause-rows
narrow-requires-clause-rows c =
    let e = c.row_count.ensures.is in let sides = c.args.sides.now in
    rows_copied sides.from.now sides.mask sides.to.now c.args.base.now c.copy_targets.new.domains (λ i h. c.copy_targets.ensures i (omega arith)) c.requires.rows

pub returns-then-not-narrow-clause-none : goal.returns-then-not-narrow-clause-none
returns-then-not-narrow-clause-none c = λ no' a f.
    let e = c.row_count.ensures.is in let sides = c.args.sides.now in
    c.narrow.ensures c.if-not-narrow.true a
    (sending_copied sides.from.now sides.mask sides.to.now c.args.base.now c.copy_targets.new.domains a (λ i h. c.copy_targets.ensures i (omega arith)) f)
