-- What is taken out is the last row, so none moves; notes of more rows than there are remain right.
use Rattle.std.proofs.Common.{rules, ◌-◌, arith, sym, ◌∙◌}
use Rattle.su_index.proofs.Digests.{notes_fewer}
use Rattle.su_index.proofs.Whole.{indexed_removed}
use Rattle.su_index.proofs.tables.Table.remove_last.Goals as goal

pub invariant_of-self : goal.invariant_of-self
invariant_of-self c = (
  indexed_removed c.self.inside.rows c.remove_at-row.new.self (c.len-last.result - 1) c.remove_at-row.result c.take_out.new.indexes.items
      (search (arith, rules))
      c.self.invariant.0.small c.remove_at-row.ensures.rows (c.take_out.ensures.len ∙ c.self.invariant.0.count ∙ sym c.remove_at-row.ensures.width) (rw c.as_slice.ensures.rows at c.take_out.ensures.indexes),
  notes_fewer c.self.inside.rows.rows c.remove_at-row.new.self.rows c.self.inside.notes.items (λ other there. ((c.remove_at-row.ensures.out other).0 there).0) c.self.invariant.1,
)
