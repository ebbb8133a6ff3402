-- What an edit does to the entries of an index.
-- as many pass each test: the same positions, in any order
-- No public contract cites this module.
use Rattle.std.specs.Prelude.{◌≡◌, ◌+◌, ℕ, Bool, cond, List, count_by}
use Rattle.su_index.specs.declared.entry.Entry.{Entry}
use Rattle.su_index.specs.Entries.{positions}

-- the new entries have the old positions but for one at p
abbrev pub LacksOne : ℕ → List Entry → List Entry → Type 0
LacksOne p old new = (test : ℕ → Bool) → count_by test (positions new) + cond (test p) 1 0 ≡ count_by test (positions old)

-- they have the old positions, and p
abbrev pub HasOneMore : ℕ → List Entry → List Entry → Type 0
HasOneMore p old new = (test : ℕ → Bool) → count_by test (positions new) ≡ count_by test (positions old) + cond (test p) 1 0

-- they have the old positions, with `to` in place of `from`
abbrev pub HasOther : ℕ → ℕ → List Entry → List Entry → Type 0
HasOther from to old new = (test : ℕ → Bool) → count_by test (positions new) + cond (test from) 1 0 ≡ count_by test (positions old) + cond (test to) 1 0
