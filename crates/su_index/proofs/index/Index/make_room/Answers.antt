-- Neither putting the chunks together anew nor splitting one changes the entries, so the index of the rows it was is the index that it is.
use Rattle.std.proofs.Common.{◌≡◌, ◌∙◌, ap}
use Rattle.su_index.specs.Entries.{entries_of}
use Rattle.su_index.specs.inside.Indexed.{entries_in}
use Rattle.su_index.proofs.index.Index.make_room.Goals as goal
use Rattle.su_index.proofs.index.Index.make_room.Goals.{then-is_sparse+in_ok-run+in_ok-self, else-is_sparse}

pub returns-clause-index : goal.returns-clause-index
returns-clause-index c =
    let same : entries_of c.make_room.new.chunks.items ≡ entries_in c.args.self.now =
    c.make_room.ensures.entries
    ∙ elim c.if-is_sparse.branch [
      | then-is_sparse+in_ok-run+in_ok-self w ↦
          ap entries_in w.self-is ∙ w.in_ok-self.ensures.entries ∙ w.as_slice-then-is_sparse-2.ensures.value ∙ w.in_ok-run.ensures ∙ ap entries_of w.as_slice-then-is_sparse.ensures.value
      | else-is_sparse w ↦ ap entries_in w.self-is
    ] in
    record { entries = rw same c.requires.index.entries; some = c.make_room.ensures.some }
