-- Sets that begin with given numbers.
-- Fails: what a set has to do to fail; n: how many numbers there are; front: the numbers that a set begins with
-- k, from: how many numbers follow the front, and where they begin
-- No public contract cites this module.
use Rattle.std.specs.Prelude.{◌≡◌, ◌++◌, ℕ, List, length}
use Rattle.su_blame.specs.Sets.{AreRising, IsLess}

-- what follows the front goes on to make a set of it
abbrev pub Fits : ℕ → ℕ → List ℕ → Type 0
Fits n from front = (t : List ℕ) → AreRising n from t → AreRising n 0 (front ++ t)

-- these k numbers fail behind the front, and no lesser ones do
pub record IsFirst (Fails : List ℕ → Type 0) (n k from : ℕ) (front rest : List ℕ) : Type 0 where
  pub rising : AreRising n from rest
  pub long : length rest ≡ k
  pub fails : Fails (front ++ rest)
  pub first : (t : List ℕ) → AreRising n from t → length t ≡ k → Fails (front ++ t) → ¬ IsLess t rest

-- the set is the front and the first k numbers that fail behind it
pub record HasFirst (Fails : List ℕ → Type 0) (n k from : ℕ) (front set : List ℕ) : Type 0 where
  pub rest : List ℕ
  pub is : set ≡ front ++ rest
  pub is_first : IsFirst Fails n k from front rest

-- no k numbers fail behind the front
abbrev pub HasNone : (List ℕ → Type 0) → ℕ → ℕ → ℕ → List ℕ → Type 0
HasNone Fails n k from front = (t : List ℕ) → AreRising n from t → length t ≡ k → ¬ Fails (front ++ t)
