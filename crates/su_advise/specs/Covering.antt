-- Pairs of attributes, and the maximal objects that have both. `covers` has the attributes of each maximal object.
-- covered: some maximal object has both attributes of the pair; twice covered: two of them have
use Rattle.std.specs.Prelude.{ℕ, ◌≡◌, ◌<◌, Bool, ◌&&◌, true, false, List, length}
use Rattle.std.specs.List.{list_any}
use Rattle.std.specs.Ordering.{nat_cmp}
use Rattle.std.specs.FinSet.{FinSet, contains}
use Rattle.su_base.specs.Sets.{set_at}

-- whether a maximal object has both
abbrev pub has_both : ℕ → ℕ → FinSet nat_cmp → Bool
has_both a b cover = contains cover a && contains cover b

-- the maximal objects that have both attributes, by number
abbrev pub IsCoverOf : List (FinSet nat_cmp) → ℕ → ℕ → ℕ → Type 0
IsCoverOf covers a b k = (k < length covers) × (has_both a b (set_at covers k) ≡ true)

-- a later attribute of objects than a which no maximal object has together with it
abbrev pub IsUncovered : FinSet nat_cmp → List (FinSet nat_cmp) → ℕ → ℕ → Type 0
IsUncovered used covers a b = (b < 128) × (a < b) × (contains used b ≡ true) × (list_any (has_both a b) covers ≡ false)
