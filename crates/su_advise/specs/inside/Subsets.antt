-- The subsets of a set, by its members.
-- No public contract cites this module.
use Rattle.std.specs.Prelude.{ℕ, ◌<◌, ◌≤◌, ◌↔◌, IsTrue, List, ◌++◌, map, length, get_or, Contains}
use Rattle.std.specs.Ordering.{nat_cmp}
use Rattle.std.specs.FinSet.{FinSet, contains, is_subset, insert}
use Rattle.su_base.specs.Lists.{AllDiffer}

-- the sets, and behind them each with the number
abbrev pub with_each : List (FinSet nat_cmp) → ℕ → List (FinSet nat_cmp)
with_each sets a = sets ++ map (λ s. insert s a) sets

-- all sets of some of these numbers, each once, and each behind its parts
pub record AreSubsetsOf (members : List ℕ) (sets : List (FinSet nat_cmp)) : Type 0 where
  pub differ : AllDiffer sets
  pub all : (s : FinSet nat_cmp) → Contains sets s ↔ ((a : ℕ) → IsTrue (contains s a) → Contains members a)
  pub parts_first : (i j : ℕ) (d : FinSet nat_cmp) → i < length sets → j < length sets → IsTrue (is_subset (get_or sets i d) (get_or sets j d)) → i ≤ j
