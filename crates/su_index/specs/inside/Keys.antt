-- Rows before a sort makes entries of them.
-- key: the lead of a row's value, the value, and the row's position
-- No public contract cites this module.
use denote.Ref.{Bor}
use Rattle.std.specs.Prelude.{◌≡◌, ◌+◌, ℕ, Bool, List, count_by}
use Rattle.su_base.specs.declared.values.Value.{Value}
use Rattle.su_base.specs.Numbers.{count_below}

-- what rows are sorted by
abbrev pub Key : Type 0
Key = ℕ × Bor Value × ℕ

-- the positions of the keys are those from `from` up to `past`, each once
abbrev pub AreEachOnce : ℕ → ℕ → List Key → Type 0
AreEachOnce from past keys = (test : ℕ → Bool) → count_below test from + count_by (λ key. test key.2) keys ≡ count_below test past
