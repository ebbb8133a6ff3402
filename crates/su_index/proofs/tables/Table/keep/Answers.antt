-- The indexes of what is kept are made of the entries whose rows are kept, before any row goes; so they are those of the rows that stay.
use Rattle.std.proofs.Common.{◌≡◌, length, ◌∙◌, ap, sym}
use Rattle.su_index.proofs.Whole.{indexed_positions, indexed_kept}
use Rattle.su_index.proofs.tables.Table.keep.Goals as goal

pub kept_indexes-requires-clause-positions : goal.kept_indexes-requires-clause-positions
kept_indexes-requires-clause-positions c =
    let e : length c.args.kept.now ≡ length c.self.inside.rows.rows = c.requires ∙ ap (λ s. length s.rows) (sym c.self.view_is) in
    rw c.as_slice-2.ensures.value (indexed_positions c.self.inside.rows c.self.inside.indexes.items (length c.args.kept.now) c.self.invariant.0 e)

pub invariant_of-self : goal.invariant_of-self
invariant_of-self c =
    let e : length c.args.kept.now ≡ length c.self.inside.rows.rows = c.requires ∙ ap (λ s. length s.rows) (sym c.self.view_is) in
    let same = c.as_slice-2.ensures.value in
    (indexed_kept c.self.inside.rows c.keep.new.self c.args.kept.now c.self.inside.indexes.items c.in_ok-indexes.indexes.items c.self.invariant.0 e c.keep.ensures.rows c.keep.ensures.width (c.in_ok-indexes.ensures.len ∙ ap length same) (rw same at c.in_ok-indexes.ensures.kept), c.forget.ensures c.keep.new.self.rows)
