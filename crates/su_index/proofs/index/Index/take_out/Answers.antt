-- Each position has one entry: that of the row goes, and that of the last row takes its position; this leaves an index of the rows as they are with the last one moved.
use Rattle.std.proofs.Common.{◌≡◌, ◌-◌, arith, length, sym}
use Rattle.su_index.specs.Entries.{entries_of, positions}
use Rattle.su_index.specs.inside.Indexed.{entries_in}
use Rattle.su_index.specs.inside.Order.{value_at}
use Rattle.su_index.proofs.Changed.{positions_more, positions_left, absent_left, there_left, there_once, index_once, with_value-other}
use Rattle.su_index.proofs.Entries.{index_with-removed, index_with-same}
use Rattle.su_index.proofs.index.Index.take_out.Goals as goal

pub take_out-requires-clause-positions : goal.take_out-requires-clause-positions
take_out-requires-clause-positions c = positions_more _ _ _ c.requires.index.entries.order (length c.args.rows.now) (omega arith)

pub take_out-requires-clause-there : goal.take_out-requires-clause-there
take_out-requires-clause-there c = there_once _ _ (omega (arith, index_once _ _ _ c.requires.index.entries.order c.args.position c.requires.within))

pub rename-requires-clause-positions : goal.rename-requires-clause-positions
rename-requires-clause-positions c = positions_left (length c.args.rows.now) c.args.position (positions (entries_in c.args.self.now)) (positions (entries_of c.take_out.new.chunks.items)) c.take_out.ensures.count (positions_more _ _ _ c.requires.index.entries.order (length c.args.rows.now) (omega arith))

pub rename-requires-clause-there : goal.rename-requires-clause-there
rename-requires-clause-there c = there_left c.args.position (length c.args.rows.now - 1) (positions (entries_in c.args.self.now)) (positions (entries_of c.take_out.new.chunks.items)) c.take_out.ensures.count (index_once _ _ _ c.requires.index.entries.order (length c.args.rows.now - 1) (omega (arith, c.requires.within))) (λ e. omega (arith, e, c.if-position-last.true))

pub rename-requires-clause-apart : goal.rename-requires-clause-apart
rename-requires-clause-apart c = absent_left c.args.position (positions (entries_in c.args.self.now)) (positions (entries_of c.take_out.new.chunks.items)) c.take_out.ensures.count (index_once _ _ _ c.requires.index.entries.order c.args.position c.requires.within)

pub returns-else-position-last : goal.returns-else-position-last
returns-else-position-last c =
    let e : c.args.position ≡ length c.args.rows.now - 1 = omega (arith, c.requires.within, c.if-position-last.false) in
    record {
      entries = index_with-same (value_at c.args.rows.now c.args.column) _ (length c.args.rows.now - 1) _ (λ p h. sym (with_value-other (value_at c.args.rows.now c.args.column) _ c.args.position p (λ is. omega (arith, is, e, h))))
          (index_with-removed (value_at c.args.rows.now c.args.column) (value_at c.args.rows.now c.args.column) (length c.args.rows.now) (entries_in c.args.self.now) _ c.requires.index.entries c.take_out.ensures.ordered (rw (← e) c.take_out.ensures.count) c.take_out.ensures.len c.take_out.ensures.leads);
      some = c.take_out.ensures.some;
    }
