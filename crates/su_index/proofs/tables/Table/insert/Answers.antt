-- The indexes have room and the notes the row before it is put in; a new row stands at the end, so what they held is of the rows before it and they need only its entry.
use Rattle.std.proofs.Common.{◌≡◌, ◌++◌, ◌∷◌, [], length, length-append, arith, ap, sym, ◌∙◌}
use Rattle.su_index.specs.inside.Notes.{AllAreNotes}
use Rattle.su_index.proofs.Chunked.{ok_holds}
use Rattle.su_index.proofs.Whole.{indexes_first}
use Rattle.su_index.proofs.tables.Table.insert.Goals as goal

pub add-requires-clause-indexes : goal.add-requires-clause-indexes
add-requires-clause-indexes c =
    let new : c.insert.new.self.rows ≡ c.self.inside.rows.rows ++ c.args.row ∷ [] = (rw c.in-Ok-true.field-0-test at c.in-Ok-true.ensures.ok).1 in
    rw c.len-position.ensures
    (indexes_first c.self.inside.rows.rows (c.args.row ∷ []) c.as_slice-in-Ok-true.result.now (length c.self.inside.rows.rows) c.make_room.new.indexes.items (omega arith) (c.as_slice-in-Ok-true.ensures.rows ∙ new) (rw c.as_slice.ensures.rows at c.make_room.ensures.indexes))

pub take_in-requires-clause-width : goal.take_in-requires-clause-width
take_in-requires-clause-width c =
    (c.self.inside.rows.width, omega (arith, c.width-width.ensures, c.width-width.type_inv), rw c.as_slice-2.ensures.rows c.as_slice-2.ensures.relation.width, c.requires ∙ ap (λ s. s.width) (sym c.self.view_is))

pub invariant_of-self-in-Ok-true : goal.invariant_of-self-in-Ok-true
invariant_of-self-in-Ok-true c =
    let new : c.insert.new.self.rows ≡ c.self.inside.rows.rows ++ c.args.row ∷ [] = (rw c.in-Ok-true.field-0-test at c.in-Ok-true.ensures.ok).1 in
    let notes : AllAreNotes (c.self.inside.rows.rows ++ c.args.row ∷ []) c.take_in.new.notes.items = rw c.as_slice-2.ensures.rows at (ok_holds (AllAreNotes (c.as_slice-2.result.now ++ c.args.row ∷ []) c.take_in.new.notes.items) c.take_in.result c.if-is_err-2.ensures.negation c.take_in.ensures.row) in (
      record {
        count = c.add.ensures.len ∙ c.make_room.ensures.len ∙ c.self.invariant.0.count ∙ sym c.insert.ensures.width;
        small = omega (arith, ap length new, length-append c.self.inside.rows.rows (c.args.row ∷ []), c.len.ensures, c.if-len-ge-MOST.false);
        indexes = rw c.as_slice-in-Ok-true.ensures.rows at c.add.ensures.indexes;
      },
      rw new notes,
    )
