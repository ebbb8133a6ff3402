-- Which comparisons a condition has.
-- comparison: two sides, each a ref or a constant, and an operator; compared: comparisons that are borrowed; now: what is borrowed
-- No public contract cites this module.
use denote.Ref.{Bor}
use Rattle.std.specs.Prelude.{◌≡◌, List, map}
use Rattle.su_where.specs.Truth.{comparisons_of}
use Rattle.su_query.specs.declared.conditions.Comparison.{Comparison}
use Rattle.su_query.specs.Refs.{NamedCond}

-- the condition has these comparisons, from left to right
abbrev pub HasComparisons : NamedCond → List (Bor Comparison) → Type 0
HasComparisons cond compared = comparisons_of cond ≡ map (λ k. k.now) compared
