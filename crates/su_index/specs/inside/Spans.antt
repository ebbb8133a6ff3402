-- Where the rows of a value stand in an index, and the positions to which rows come when others go.
-- position: of a row among the stored ones, from 0; p, q: positions; at: the value at each position; v: a value
-- run: a list of positions; in order: by the lead of the value, then by value, then by position; first, past: places in the run, from 0
-- kept: whether the row at each position stays
-- No public contract cites this module.
use Rattle.std.specs.Prelude.{◌≡◌, ◌<◌, ◌≤◌, ℕ, Bool, true, false, slice_index, cond, nat_eq, List, length, slice_index_or, All}
use Rattle.std.specs.Ordering.{is_lt, is_eq}
use Rattle.su_base.specs.declared.values.Value.{Value}
use Rattle.su_base.specs.Numbers.{count_below}
use Rattle.su_index.specs.inside.Order.{compare_keys, compare_entries}

-- the row at position q comes before a row with value v at position p
abbrev pub comes_before : (ℕ → Value) → Value → ℕ → ℕ → Bool
comes_before at v p q = is_lt (compare_entries (at q) q v p)

-- the row at position p has the value v
abbrev pub has_at : (ℕ → Value) → Value → ℕ → Bool
has_at at v p = is_eq (compare_keys (at p) v)

-- the positions in the run whose row has the value stand from `first` up to `past`
pub record IsSpan (at : ℕ → Value) (v : Value) (run : List ℕ) (first past : ℕ) : Type 0 where
  pub start : first ≤ past
  pub end : past ≤ length run
  pub below : (k : ℕ) → k < first → has_at at v (slice_index run k) ≡ false
  pub among : (k : ℕ) → first ≤ k → k < past → has_at at v (slice_index run k) ≡ true
  pub above : (k : ℕ) → past ≤ k → k < length run → has_at at v (slice_index run k) ≡ false

-- each row reaches to the column
abbrev pub HaveColumn : ℕ → List (List Value) → Type 0
HaveColumn column rows = All (λ row. column < length row) rows

-- each position is that of a row
abbrev pub ArePositions : ℕ → List ℕ → Type 0
ArePositions n run = All (λ p. p < n) run

-- the values where the row at position p has come to have the value v
abbrev pub with_value : (ℕ → Value) → ℕ → Value → ℕ → Value
with_value at p v q = cond (nat_eq q p) v (at q)

-- the row at the position is to be kept
abbrev pub is_kept : List Bool → ℕ → Bool
is_kept kept p = slice_index_or kept p false

-- the position that it comes to: how many kept rows were before it
abbrev pub rank_of : List Bool → ℕ → ℕ
rank_of kept p = count_below (is_kept kept) p
