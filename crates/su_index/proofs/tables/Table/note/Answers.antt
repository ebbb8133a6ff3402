-- Notes that are begun tell nothing yet, so they are notes of the rows whatever those are.
use Rattle.su_index.proofs.tables.Table.note.Goals as goal

pub invariant_of-self : goal.invariant_of-self
invariant_of-self c = (c.self.invariant.0, c.add_notes.ensures c.self.inside.rows.rows c.self.invariant.1)
