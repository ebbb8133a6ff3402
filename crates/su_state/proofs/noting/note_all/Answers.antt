-- Notes leave the tables as they are, so they still belong to the schema.
use Rattle.su_state.proofs.noting.note_all.Goals as goal

pub note_fd-requires-clause-tables : goal.note_fd-requires-clause-tables
note_fd-requires-clause-tables c = rw c.loop-fd.invariant c.requires
