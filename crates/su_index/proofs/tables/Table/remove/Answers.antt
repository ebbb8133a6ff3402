-- The row's position is found in the relation, so its entries can go; notes of more rows than there are remain right, and the indexes follow the last row's move.
use Rattle.std.proofs.Common.{◌≡◌, arith, refl, sym, ◌∙◌}
use Rattle.std.proofs.lemmas.Option.{slice_get_within}
use Rattle.su_index.proofs.Digests.{notes_fewer}
use Rattle.su_index.proofs.Whole.{indexed_removed, there_at}
use Rattle.su_index.proofs.tables.Table.remove.Goals as goal

pub overflow_cast-position : goal.overflow_cast-position
overflow_cast-position c =
    let h = slice_get_within c.self.inside.rows.rows c.in-Some.position c.args.row.now c.in-Some.ensures in
    omega (arith, h, c.self.invariant.0.small)

pub take_out-requires-clause-within : goal.take_out-requires-clause-within
take_out-requires-clause-within c = rw c.as_slice.ensures.rows (slice_get_within c.self.inside.rows.rows c.in-Some.position c.args.row.now c.in-Some.ensures)

pub remove_at-row-requires : goal.remove_at-row-requires
remove_at-row-requires c = slice_get_within c.self.inside.rows.rows c.in-Some.position c.args.row.now c.in-Some.ensures

pub invariant_of-self : goal.invariant_of-self
invariant_of-self c = (
  indexed_removed c.self.inside.rows c.remove_at-row.new.self c.in-Some.position c.remove_at-row.result c.take_out.new.indexes.items
      (slice_get_within c.self.inside.rows.rows c.in-Some.position c.args.row.now c.in-Some.ensures)
      c.self.invariant.0.small c.remove_at-row.ensures.rows (c.take_out.ensures.len ∙ c.self.invariant.0.count ∙ sym c.remove_at-row.ensures.width) (rw c.as_slice.ensures.rows at c.take_out.ensures.indexes),
  notes_fewer c.self.inside.rows.rows c.remove_at-row.new.self.rows c.self.inside.notes.items (λ other there. ((c.remove_at-row.ensures.out other).0 there).0) c.self.invariant.1,
)

pub returns-clause-there : goal.returns-clause-there
returns-clause-there c = rw (← c.self.view_is) (λ one. there_at c.self.inside.rows.rows c.in-Some.position c.args.row.now c.in-Some.ensures, λ there. refl)

pub returns-clause-out : goal.returns-clause-out
returns-clause-out c =
    let is : c.remove_at-row.result ≡ c.args.row.now = cc (c.in-Some.ensures, c.remove_at-row.ensures.row) in
    rw (← c.self.view_is) (rw is at c.remove_at-row.ensures.out)
