-- The last row's position is none of the index's, so with its entry put in the index has each position below the count once and in order.
use Rattle.std.proofs.Common.{arith, length, sym}
use Rattle.su_index.specs.inside.Indexed.{entries_in}
use Rattle.su_index.specs.inside.Order.{value_at}
use Rattle.su_index.proofs.Changed.{positions_more, index_apart}
use Rattle.su_index.proofs.Entries.{index_with-add}
use Rattle.su_index.proofs.index.Index.add.Goals as goal

pub put_in-self-requires-clause-positions : goal.put_in-self-requires-clause-positions
put_in-self-requires-clause-positions c = positions_more _ _ _ c.requires.index.entries.order (length c.args.rows.now) (omega (arith, c.requires.last))

pub put_in-self-requires-clause-apart : goal.put_in-self-requires-clause-apart
put_in-self-requires-clause-apart c = index_apart _ _ _ c.requires.index.entries.order c.args.position (omega arith)

pub returns : goal.returns
returns c = record {
  entries = rw (sym c.requires.last)
      (index_with-add (value_at c.args.rows.now c.args.column) c.args.position (entries_in c.args.self.now) _ c.requires.index.entries (omega (arith, c.requires.last, c.requires.small)) (rw c.value-wanted.ensures at c.put_in-self.ensures.ordered) c.put_in-self.ensures.count c.put_in-self.ensures.len (rw c.value-wanted.ensures at c.put_in-self.ensures.leads));
  some = c.put_in-self.ensures.some;
}
