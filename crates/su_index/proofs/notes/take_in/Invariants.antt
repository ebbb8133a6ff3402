use Rattle.std.proofs.Common.{◌≡◌, ◌<◌, ◌++◌, ◌∷◌, [], ℕ, length, slice_index_or}
use Rattle.su_index.specs.inside.Notes.{AreNotes, AllAreNotes}
use Rattle.su_index.specs.declared.notes.Notes.{Notes}
use Rattle.su_index.proofs.notes.take_in.Given as goal

abbrev pub invariant-loop-k : goal.invariant-loop-k
invariant-loop-k l = record {
  len : length l.notes.items ≡ length l.fn.notes.items;
  notes : AllAreNotes l.rows l.notes.items;
  done : (j : ℕ) (d : Notes) → j < l.k → AreNotes (l.rows ++ l.row ∷ []) (slice_index_or l.notes.items j d);
}
