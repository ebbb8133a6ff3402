-- Sets that make a trial fail.
-- Fails: what a set has to do to fail; n: how many numbers there are; sets are ascending lists, as in Sets
-- least: it fails, and none before it does; narrow: it fails, and no part of it but the whole does
use Rattle.std.specs.Prelude.{◌≡◌, ◌<◌, ℕ, List, Contains, length, if◌then◌else◌, nat_le}
use Rattle.su_blame.specs.declared.blaming.Blame.{Blame}
use Rattle.su_blame.specs.declared.blaming.Blame.TheVariants.{Least, Narrow}
use Rattle.su_blame.specs.Sets.{AreRising, ComesBefore}

-- the set fails, and none that comes before it does
pub record IsLeast (Fails : List ℕ → Type 0) (n : ℕ) (s : List ℕ) : Type 0 where
  pub set : AreRising n 0 s
  pub fails : Fails s
  pub least : (t : List ℕ) → AreRising n 0 t → Fails t → ¬ ComesBefore t s

-- the set fails, and each part of it that does is the whole
pub record IsNarrow (Fails : List ℕ → Type 0) (n : ℕ) (s : List ℕ) : Type 0 where
  pub set : AreRising n 0 s
  pub fails : Fails s
  pub narrow : (t : List ℕ) → AreRising n 0 t → ((i : ℕ) → Contains t i → Contains s i) → Fails t → t ≡ s

-- of sets of so many of n numbers each is tried: of all, where they are at most 12
abbrev pub most_tried : ℕ → ℕ
most_tried n = if nat_le n 12 then n else if nat_le n 30 then 3 else if nat_le n 90 then 2 else 1

-- a least set; or a narrow one, and each that fails has more numbers than are tried
abbrev pub IsBlame : (List ℕ → Type 0) → ℕ → Blame → Type 0
IsBlame Fails n (Least s) = IsLeast Fails n s
IsBlame Fails n (Narrow s) = IsNarrow Fails n s × ((t : List ℕ) → AreRising n 0 t → Fails t → most_tried n < length t)

-- no set fails
abbrev pub NoneFails : (List ℕ → Type 0) → ℕ → Type 0
NoneFails Fails n = (t : List ℕ) → AreRising n 0 t → ¬ Fails t
