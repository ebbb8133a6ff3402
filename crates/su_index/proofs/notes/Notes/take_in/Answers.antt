-- What was noted stays noted, and the new row is noted behind it.
use Rattle.std.proofs.Common.{BuildHasherDefault, FoldHasher}
use Rattle.su_index.proofs.Digests.{noted_more}
use Rattle.su_index.proofs.notes.Notes.take_in.Goals as goal

pub returns-clause-row : goal.returns-clause-row
returns-clause-row c =
    noted_more {S = BuildHasherDefault FoldHasher} c.note_row.result c.make_whole.new.self.whole c.make_whole.new.self.columns c.make_whole.new.self.places c.note_row.new.places c.args.rows.now c.args.row.now c.make_whole.ensures.notes c.note_row.ensures.kept c.note_row.ensures.noted
