-- Laws of mappings, for any tableaux, and of rooms.
-- mapping, within, prepared: as in Lists, su_tableau's Equivalent and Rooms
use Rattle.std.specs.Prelude.{◌≡◌, ◌^◌, ◌+◌, ◌↔◌, ℕ, Bool, IsTrue, List, length}
use Rattle.std.specs.Int.{bit_at}
use Rattle.su_tableau.specs.Tableaux.{Tab, IsValid}
use Rattle.su_tableau.specs.Kinds.{Kinds, IsTyped}
use Rattle.su_tableau.specs.Parts.{part}
use Rattle.su_tableau.specs.Equivalent.{IsWithin}
use Rattle.su_map.specs.Lists.{IsMapping}
use Rattle.su_map.specs.Rooms.{Space, IsPreparedFor}

-- for valid tableaux, well typed for the same kinds, there is a mapping from all rows of the one into all rows of the other exactly where the other is within the one
abbrev pub MappingsAreContainment : Type 0
MappingsAreContainment = (kinds : Kinds) (s t : Tab) (m k : ℕ) → IsValid s → IsValid t → IsTyped kinds s → IsTyped kinds t → length s.head ≡ length t.head
    → m + 1 ≡ 2 ^ length s.rows → k + 1 ≡ 2 ^ length t.rows → ((list : List ℕ) × IsMapping s m t k list) ↔ IsWithin kinds t s

-- for all kinds that fit both, it is true exactly where the rows of t in k, as a tableau, are within those of s in m
abbrev pub TellsContainment : Bool → Tab → ℕ → Tab → ℕ → Type 0
TellsContainment b s m t k = (kinds : Kinds) → IsTyped kinds s → IsTyped kinds t → IsTrue b ↔ IsWithin kinds (part t k) (part s m)

-- a room that is prepared for the rows in m and k is prepared for those in n and l, where these are among them
abbrev pub PreparedForFewer : Type 0
PreparedForFewer = (s : Tab) (m n : ℕ) (t : Tab) (k l : ℕ) (room : Space) → IsPreparedFor s m t k room
    → ((i : ℕ) → bit_at n i ≡ 1 → bit_at m i ≡ 1) → ((j : ℕ) → bit_at l j ≡ 1 → bit_at k j ≡ 1) → IsPreparedFor s n t l room
