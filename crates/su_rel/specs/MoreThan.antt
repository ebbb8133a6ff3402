-- More than a number of things that have a property.
-- more than n: n + 1 of them, numbered from 0 to n, no two of them equal; nothing is said of how many there are
use Rattle.std.specs.Prelude.{◌≡◌, ℕ, ◌<◌, ◌≤◌}

-- more than n have the property
pub record AreMoreThan {X : Type 0} (n : ℕ) (P : X → Type 0) : Type 0 where
  pub member : ℕ → X
  pub each : (i : ℕ) → i ≤ n → P (member i)
  pub differ : (i j : ℕ) → i < j → j ≤ n → ¬ (member i ≡ member j)
