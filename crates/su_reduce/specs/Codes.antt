-- Codes of values.
-- code: a value's position in a list of values
use Rattle.std.specs.Prelude.{◌≡◌, ◌<◌, ◌≤◌, ℕ, List, length}
use Rattle.su_base.specs.declared.values.Value.{Value}
use Rattle.su_tableau.specs.Valuations.{nth}

-- the value of a code; 0 where no value has it
abbrev pub decode : List Value → ℕ → Value
decode values code = nth values code

-- no value has two codes
abbrev pub AreApart : List Value → Type 0
AreApart values = (i j : ℕ) → i < j → j < length values → ¬ (decode values i ≡ decode values j)

-- the old codes stand for the same values
pub record Extends (old new : List Value) : Type 0 where
  pub longer : length old ≤ length new
  pub same : (code : ℕ) → code < length old → decode new code ≡ decode old code
