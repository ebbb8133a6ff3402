use Rattle.std.proofs.Common.{◌≡◌, ◌<◌, ◌≤◌, ℕ, length, slice_index}
use Rattle.su_index.specs.inside.Spans.{rank_of}
use Rattle.su_index.proofs.keeping.ranks.Given as goal

abbrev pub invariant-loop-mark : goal.invariant-loop-mark
invariant-loop-mark l = record {
  rank : l.rank ≡ rank_of l.kept l.mark-index;
  most : l.rank ≤ l.mark-index;
  len : length l.ranks.items ≡ l.mark-index;
  ranks : (p : ℕ) → p < l.mark-index → slice_index l.ranks.items p ≡ rank_of l.kept p;
}
