-- Targets for the rows of a set that a mapping could give them.
-- sending: for each row of a set a target in its domain to which it goes by itself, each two of which agree; a mapping's targets are one
-- No public contract cites this module.
use Rattle.std.specs.Prelude.{◌≡◌, ℕ, ◌<◌, List, length, get_or}
use Rattle.std.specs.Int.{bit_at}
use Rattle.su_tableau.specs.Tableaux.{Tab}
use Rattle.su_map.specs.Lists.{row_of}
use Rattle.su_map.specs.Candidates.{MapAlike}
use Rattle.su_map.specs.inside.Netted.{IsTarget}

-- the domains of the rows in m have rows of t alone
abbrev pub AreRows : Tab → ℕ → Tab → List ℕ → Type 0
AreRows s m t domains = (i j : ℕ) → i < length s.rows → bit_at m i ≡ 1 → bit_at (get_or domains i 0) j ≡ 1 → j < length t.rows

-- each row of s in m has a target in its domain, to which it goes by itself, and each two agree
pub record IsSending (s : Tab) (m : ℕ) (t : Tab) (domains : List ℕ) (a : ℕ → ℕ) : Type 0 where
  pub within : (i : ℕ) → i < length s.rows → bit_at m i ≡ 1 → bit_at (get_or domains i 0) (a i) ≡ 1
  pub own : (i : ℕ) → i < length s.rows → bit_at m i ≡ 1 → IsTarget s t i (a i)
  pub agree : (i q : ℕ) → i < length s.rows → q < length s.rows → bit_at m i ≡ 1 → bit_at m q ≡ 1 → MapAlike (row_of s i) (row_of t (a i)) (row_of s q) (row_of t (a q))

-- each sending from the old domains is one from the new
abbrev pub KeepsSendings : Tab → ℕ → Tab → List ℕ → List ℕ → Type 0
KeepsSendings s m t old new = (a : ℕ → ℕ) → IsSending s m t old a → IsSending s m t new a

-- each of those that send the row to the target
abbrev pub KeepsSendingsTo : Tab → ℕ → Tab → ℕ → ℕ → List ℕ → List ℕ → Type 0
KeepsSendingsTo s m t row target old new = (a : ℕ → ℕ) → IsSending s m t old a → a row ≡ target → IsSending s m t new a
