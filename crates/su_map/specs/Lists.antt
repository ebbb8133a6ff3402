-- Containment mappings by their row lists, and the first of them.
-- row list: for each row of a set, in ascending order, the row of the target to which it goes
use Rattle.std.specs.Prelude.{◌≡◌, ℕ, IsTrue, List, map, All, Contains}
use Rattle.std.specs.Ordering.{nat_cmp, is_le}
use Rattle.std.specs.Cmp.Lexicographic.{slice_cmp}
use Rattle.su_tableau.specs.declared.symbols.Sym.{Sym}
use Rattle.su_tableau.specs.Tableaux.{Tab}
pub use Rattle.su_tableau.specs.Parts.{numbers_of, row_numbers, row_of}
use Rattle.su_tableau.specs.Parts.{part}
use Rattle.su_tableau.specs.Mapping.{images_of}

-- the list names for each row of s in m a row of t in k, such that one list of symbols sends the head to the head and each row to the row named
pub record IsMapping (s : Tab) (m : ℕ) (t : Tab) (k : ℕ) (list : List ℕ) : Type 0 where
  pub symbols : ℕ → Sym
  pub head : images_of symbols s.head ≡ t.head
  pub rows : map (images_of symbols) (part s m).rows ≡ map (row_of t) list
  pub targets : All (Contains (row_numbers t k)) list

-- the lexicographically first row list of a mapping
pub record IsFirst (s : Tab) (m : ℕ) (t : Tab) (k : ℕ) (list : List ℕ) : Type 0 where
  pub maps : IsMapping s m t k list
  pub first : (other : List ℕ) → IsMapping s m t k other → IsTrue (is_le (slice_cmp nat_cmp list other))

-- a mapping with its tableaux and sets of rows
pub record Certified : Type 0 where
  pub from : Tab
  pub from_mask : ℕ
  pub to : Tab
  pub to_mask : ℕ
  pub list : List ℕ

-- the list is a mapping of the one set of rows into the other
abbrev pub IsCertified : Certified → Type 0
IsCertified c = IsMapping c.from c.from_mask c.to c.to_mask c.list
