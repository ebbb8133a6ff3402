-- A binary search: the entries below `low` come before the value and none from `high` on does, as the order of the run carries the answer at the middle to one side.
use Rattle.std.proofs.Common.{◌+◌, ◌-◌, ◌/◌, true, false, arith, length}
use Rattle.su_index.specs.Entries.{positions}
use Rattle.su_index.specs.inside.Order.{value_at}
use Rattle.su_index.proofs.Entries.{positions_length, position_within, before_at}
use Rattle.su_index.proofs.Search.{comes_before-below, comes_before-above}
use Rattle.su_index.proofs.order.place.Goals as goal

pub is_before-requires-clause-within : goal.is_before-requires-clause-within
is_before-requires-clause-within c = position_within (length c.args.rows.now) c.args.run.now (c.loop-low.low + (c.loop-low.high - c.loop-low.low) / 2) _ c.requires.positions (omega arith)

pub loop-low-preserved-then-is_before : goal.loop-low-preserved-then-is_before
loop-low-preserved-then-is_before c =
    let at = value_at c.args.rows.now c.args.column in
    let middle = c.loop-low.low + (c.loop-low.high - c.loop-low.low) / 2 in
    record {
      bound = omega arith;
      top = c.loop-low.invariant.top;
      below = λ k h. comes_before-below at c.args.wanted.now c.args.position (positions c.args.run.now) k middle c.requires.ordered (omega arith) (omega (arith, positions_length c.args.run.now))
          (before_at at c.args.wanted.now c.args.position c.args.run.now middle _ c.is_before.result true (omega arith) c.is_before.ensures c.if-is_before.true);
      above = c.loop-low.invariant.above;
    }

pub loop-low-preserved : goal.loop-low-preserved
loop-low-preserved c =
    let at = value_at c.args.rows.now c.args.column in
    let middle = c.loop-low.low + (c.loop-low.high - c.loop-low.low) / 2 in
    record {
      bound = omega arith;
      top = omega arith;
      below = c.loop-low.invariant.below;
      above = λ k h within. comes_before-above at c.args.wanted.now c.args.position (positions c.args.run.now) middle k c.requires.ordered h (omega (arith, within, positions_length c.args.run.now))
          (before_at at c.args.wanted.now c.args.position c.args.run.now middle _ c.is_before.result false (omega arith) c.is_before.ensures c.if-is_before.false);
    }
