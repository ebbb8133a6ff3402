-- How a search begins and ends: its domains at the start, the first choice, and how many tries it counted.
-- domain of a row: the targets that it may still have; choice: a target for each row, as in Choices
-- in order: the rows by their numbers, ascending, and the targets of each from the least up
-- No public contract cites this module.
use Rattle.std.specs.Prelude.{◌≡◌, ℕ, ◌+◌, ◌<◌, ◌≤◌, ◌↔◌, ◌⊎◌, Bool, List, length, get_or}
use Rattle.std.specs.Int.{bit_at}
use Rattle.su_map.specs.declared.search.Order.{Order}
use Rattle.su_map.specs.declared.search.Order.TheVariants.{Ascending}
use Rattle.su_map.specs.inside.Netted.{Netted, base_of}
use Rattle.su_map.specs.inside.Choices.{IsChoice, AreSame, IsLess, tries, ArePassed, ArePassedInto}

-- each of the n rows that is in the set has its targets in k as its domain
abbrev pub AreAtStart : Netted → ℕ → ℕ → ℕ → List ℕ → Type 0
AreAtStart net n rows k domains = (r : ℕ) → r < n → bit_at rows r ≡ 1 → (x : ℕ) → (bit_at (get_or domains r 0) x ≡ 1) ↔ ((bit_at (base_of net r) x ≡ 1) × (bit_at k x ≡ 1))

-- one of the n rows is in the set and has no target in k
abbrev pub LacksTarget : Netted → ℕ → ℕ → ℕ → Type 0
LacksTarget net n rows k = (r : ℕ) × (r < n) × (bit_at rows r ≡ 1) × ((x : ℕ) → bit_at (base_of net r) x ≡ 1 → bit_at k x ≡ 1 → ⊥)

-- each choice of targets from the old domains is one from the new
abbrev pub KeepsChoices : Netted → ℕ → ℕ → List ℕ → List ℕ → Type 0
KeepsChoices net n m old new = (choice : ℕ → ℕ) → IsChoice net n m old choice → IsChoice net n m new choice

-- on the rows in m each choice from the domains is this one, or comes after it
abbrev pub IsFirstChoice : Netted → ℕ → List ℕ → (ℕ → ℕ) → Type 0
IsFirstChoice net m domains a = (other : ℕ → ℕ) → IsChoice net (length domains) m domains other → AreSame (length domains) m other a ⊎ IsLess (length domains) m a other

-- a search in order from the domains, whose targets are below end, counted at most the tries of the rows in todo, whichever test tells the targets
abbrev pub IsWithinTries : Order → ℕ → List ℕ → ℕ → ℕ → ℕ → ℕ → Type 0
IsWithinTries order end domains m todo old new = (passes : ℕ → ℕ → Bool) → ArePassed domains (length domains) m passes → order ≡ Ascending
    → new ≤ old + tries passes end (length domains) todo

-- a search in order for a choice into k counted at most the tries of the rows in m
abbrev pub IsWithinTriesInto : Order → Netted → ℕ → ℕ → ℕ → ℕ → ℕ → Type 0
IsWithinTriesInto order net n m k old new = (passes : ℕ → ℕ → Bool) → ArePassedInto net n m k passes → order ≡ Ascending
    → new ≤ old + tries passes net.targets n m
