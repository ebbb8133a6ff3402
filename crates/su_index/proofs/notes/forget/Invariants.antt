use Rattle.std.proofs.Common.{◌≡◌, ◌<◌, ℕ, false, length, slice_index_or}
use Rattle.su_index.specs.declared.notes.Notes.{Notes}
use Rattle.su_index.proofs.notes.forget.Given as goal

abbrev pub invariant-loop-k : goal.invariant-loop-k
invariant-loop-k l = record {
  len : length l.notes.items ≡ length l.fn.notes.items;
  done : (j : ℕ) (d : Notes) → j < l.k → (slice_index_or l.notes.items j d).whole ≡ false;
}
