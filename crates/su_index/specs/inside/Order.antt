-- How an index orders the positions of the rows: by the lead of the value in its column, then by the value, then by position.
-- run: a list of positions in this order
-- No public contract cites this module.
use Rattle.std.specs.Prelude.{◌≡◌, ◌<◌, ◌+◌, ◌^◌, ℕ, Bool, List, [], length, slice_index_or, count_by}
use Rattle.std.specs.List.Sorted.{IsStrictlySortedBy}
use Rattle.std.specs.Ordering.{nat_cmp, ordering_then}
use Rattle.std.specs.declared.cmp.Ordering.{Ordering}
use Rattle.su_base.specs.Numbers.{count_below}
use Rattle.su_base.specs.declared.values.Value.{Value}
use Rattle.su_base.specs.declared.values.Value.TheVariants.{Int}
use Rattle.su_base.specs.Value.{compare_values}
use Rattle.su_index.specs.inside.Lead.{lead_of}
use Rattle.std.specs.Prelude.{pos}

-- the value in the column of the row at a position
abbrev pub value_at : List (List Value) → ℕ → ℕ → Value
value_at rows column p = slice_index_or (slice_index_or rows p []) column (Int (pos 0))

-- values by their leads, and as values where these are the same
abbrev pub compare_keys : Value → Value → Ordering
compare_keys v w = ordering_then (nat_cmp (lead_of v) (lead_of w)) (compare_values v w)

-- how value v at position p stands to value w at position q
abbrev pub compare_entries : Value → ℕ → Value → ℕ → Ordering
compare_entries v p w q = ordering_then (compare_keys v w) (nat_cmp p q)

-- the same of two positions, where `at` gives the value at each
abbrev pub compare_places : (ℕ → Value) → ℕ → ℕ → Ordering
compare_places at p q = compare_entries (at p) p (at q) q

-- the positions from `from` on, as many as the run is long, each once and in order
pub record IsRun (at : ℕ → Value) (from : ℕ) (run : List ℕ) : Type 0 where
  pub each : (test : ℕ → Bool) → count_below test from + count_by test run ≡ count_below test (from + length run)
  pub ordered : IsStrictlySortedBy (compare_places at) run

-- the positions below n
pub record IsIndex (at : ℕ → Value) (n : ℕ) (held : List ℕ) : Type 0 where
  pub run : IsRun at 0 held
  pub whole : length held ≡ n
  pub small : n < 2 ^ 32
