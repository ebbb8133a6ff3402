-- The tables stay what they are with each object's notes, as the schema has them.
use Rattle.su_state.proofs.noting.note_fd.Goals as goal

pub note_through-requires-clause-tables : goal.note_through-requires-clause-tables
note_through-requires-clause-tables c = rw c.loop-object.invariant c.requires.tables
