use Rattle.std.proofs.Common.{◌≡◌, length}
use Rattle.su_keep.proofs.opening.listing_of.Given as goal

abbrev pub invariant-loop-row : goal.invariant-loop-row
invariant-loop-row l = (length l.listed.items ≡ l.row-index) × (length l.layouts.items ≡ l.row-index)
