-- Targets of a row, cell by cell.
-- s, t: a tableau, and the one that it is mapped into; i, q: rows of s; j, p: rows of t; m, k: sets of these rows, k also a variable
-- set: a number whose bit j is 1 where row j is in it; base: for each row of s a set of targets; near: a set of other rows, for one row or for each
-- rows_of, rows_at: for each variable the rows noted there; b, c, e: columns, from 0; d: what stands in where there is no cell or row
-- No public contract cites this module.
use Rattle.std.specs.Prelude.{◌≡◌, ◌≢◌, ℕ, ◌+◌, ◌*◌, ◌<◌, ◌≤◌, ◌↔◌, List, length, get_or, Contains, Option, Some, None}
use Rattle.std.specs.Int.{bit_at}
use Rattle.su_base.specs.declared.values.Value.{Value}
use Rattle.su_tableau.specs.declared.symbols.Sym.{Sym}
use Rattle.su_tableau.specs.declared.symbols.Sym.TheVariants.{Const, Var}
use Rattle.su_tableau.specs.Tableaux.{Tab, AreVarsBelow}
use Rattle.su_map.specs.Lists.{row_of}
use Rattle.su_tableau.specs.Parts.{Cell}
use Rattle.su_map.specs.inside.Netted.{IsTarget}

-- the column is the first one of the row that holds the variable
pub record IsFirstAt (row : List Sym) (column k : ℕ) : Type 0 where
  pub cell : Cell row column (Var k)
  pub first : (c : ℕ) → c < column → Cell row c (Var k) → ⊥

-- row j holds the symbol at the column
abbrev pub HoldsAt : Tab → ℕ → Sym → ℕ → Type 0
HoldsAt t column x j = (d : Sym) → get_or (row_of t j) column d ≡ x

-- row j holds one symbol at both columns
abbrev pub AlikeAt : Tab → ℕ → ℕ → ℕ → Type 0
AlikeAt t first column j = (d : Sym) → get_or (row_of t j) first d ≡ get_or (row_of t j) column d

-- the cell of the row at the column fits the target line: constants, head symbols, and the first cell of its variable
pub record CellFits (head head' row target : List Sym) (c : ℕ) : Type 0 where
  pub constant : (v : Value) (d : Sym) → Cell row c (Const v) → get_or target c d ≡ Const v
  pub head_symbol : (i k : ℕ) (d : Sym) → IsFirstAt head i k → Cell row c (Var k) → get_or head' i d ≡ get_or target c d
  pub alike : (b k : ℕ) (d : Sym) → IsFirstAt row b k → Cell row c (Var k) → (Contains head (Var k) → ⊥) → get_or target b d ≡ get_or target c d

-- no variable stands at two columns of the row
abbrev pub IsPlain : List Sym → Type 0
IsPlain row = (c e k : ℕ) → Cell row c (Var k) → Cell row e (Var k) → c ≡ e

-- each row of m is noted at each of its variables
abbrev pub AreNoted : Tab → ℕ → List ℕ → Type 0
AreNoted s m rows_of = (i : ℕ) → i < length s.rows → bit_at m i ≡ 1 → (k : ℕ) → Contains (row_of s i) (Var k) → bit_at (get_or rows_of k 0) i ≡ 1

-- for each column of ys its variable's column in xs; none for a constant, a head variable and one that isn't in xs
pub record AreShared (head xs ys : List Sym) (columns : List (Option ℕ)) : Type 0 where
  pub some : (e c k : ℕ) → e < length ys → get_or columns e None ≡ Some c → Cell ys e (Var k) → Cell xs c (Var k)
  pub is_var : (e c : ℕ) → e < length ys → get_or columns e None ≡ Some c → (k : ℕ) × Cell ys e (Var k)
  pub none : (e k : ℕ) → get_or columns e None ≡ None → Cell ys e (Var k) → Contains xs (Var k) → Contains head (Var k)

-- the set has those of the others that hold at each column what target p holds at the column shared
abbrev pub AreTold : Tab → List (Option ℕ) → ℕ → ℕ → ℕ → Type 0
AreTold t columns p others set =
    (j : ℕ) → (bit_at set j ≡ 1) ↔ ((bit_at others j ≡ 1) × ((e c : ℕ) (d : Sym) → e < t.width → get_or columns e None ≡ Some c → get_or (row_of t p) c d ≡ get_or (row_of t j) e d))

-- new has those of old that hold at the column what target p holds at the column shared
abbrev pub IsToldAt : Tab → Option ℕ → ℕ → ℕ → ℕ → ℕ → Type 0
IsToldAt t shared column p old new =
    (j : ℕ) → (bit_at new j ≡ 1) ↔ ((bit_at old j ≡ 1) × ((c : ℕ) (d : Sym) → shared ≡ Some c → get_or (row_of t p) c d ≡ get_or (row_of t j) column d))

-- the table tells for each target of row i which targets of row q agree, by some columns shared
pub record IsTold (s t : Tab) (base : List ℕ) (i q : ℕ) (agree : List ℕ) : Type 0 where
  pub columns : List (Option ℕ)
  pub shared : AreShared s.head (row_of s i) (row_of s q) columns
  pub told : (p : ℕ) → p < length t.rows → bit_at (get_or base i 0) p ≡ 1 → AreTold t columns p (get_or base q 0) (get_or agree (i * 4096 + q * 64 + p) 0)

-- the same for row i and each row of m that is near to it
abbrev pub IsRowTold : Tab → ℕ → Tab → List ℕ → ℕ → ℕ → List ℕ → Type 0
IsRowTold s m t base i near agree = (q : ℕ) → q < length s.rows → i ≢ q → bit_at m q ≡ 1 → bit_at near q ≡ 1 → IsTold s t base i q agree

-- the same for each two rows of m that are near to each other
abbrev pub AreAllTold : Tab → ℕ → Tab → List ℕ → List ℕ → List ℕ → Type 0
AreAllTold s m t base near agree =
    (i q : ℕ) → i < length s.rows → q < length s.rows → i ≢ q → bit_at m i ≡ 1 → bit_at m q ≡ 1 → bit_at (get_or near i 0) q ≡ 1 → IsTold s t base i q agree

-- from the place on the new table tells of each target what is left of the old at the column shared
abbrev pub AreToldAt : Tab → ℕ → Option ℕ → ℕ → ℕ → List ℕ → List ℕ → Type 0
AreToldAt t targets shared column start old new =
    (p : ℕ) → p < length t.rows → bit_at targets p ≡ 1 → IsToldAt t shared column p (get_or old (start + p) 0) (get_or new (start + p) 0)

-- the result has those of the set that the cell of the row at the column fits
abbrev pub HasFitting : List Sym → Tab → List Sym → ℕ → ℕ → ℕ → Type 0
HasFitting head t row column set result = (j : ℕ) → (bit_at result j ≡ 1) ↔ ((j < length t.rows) × (bit_at set j ≡ 1) × CellFits head t.head row (row_of t j) column)

-- some row of s in m goes by itself to no row of t in k
abbrev pub HasNoTarget : Tab → ℕ → Tab → ℕ → Type 0
HasNoTarget s m t k = (i : ℕ) × (i < length s.rows) × (bit_at m i ≡ 1) × ((j : ℕ) → j < length t.rows → bit_at k j ≡ 1 → IsTarget s t i j → ⊥)

-- where row i is in m, near has the other rows that are noted at one of its variables outside the head
abbrev pub HasNearby : Tab → ℕ → List ℕ → ℕ → ℕ → Type 0
HasNearby s m rows_of i near =
    bit_at m i ≡ 1 → (k q : ℕ) → Contains (row_of s i) (Var k) → (Contains s.head (Var k) → ⊥) → i ≢ q → bit_at (get_or rows_of k 0) q ≡ 1 → bit_at near q ≡ 1

-- each row is noted at each of its variables, for each of which there is a place
pub record AreAllNoted (t : Tab) (rows_at : List ℕ) : Type 0 where
  pub symbols : AreVarsBelow (length rows_at) t
  pub rows : (j k : ℕ) → j < length t.rows → Contains (row_of t j) (Var k) → bit_at (get_or rows_at k 0) j ≡ 1

-- rows p and j hold one symbol at the column
abbrev pub HoldOne : Tab → ℕ → ℕ → ℕ → Type 0
HoldOne t c p j = (d : Sym) → get_or (row_of t p) c d ≡ get_or (row_of t j) c d

-- the table tells for each row which rows hold the same symbol at the column
abbrev pub AreAlikeAt : Tab → ℕ → List ℕ → Type 0
AreAlikeAt t c table = (p j : ℕ) → p < length t.rows → (bit_at (get_or table (c * 64 + p) 0) j ≡ 1) ↔ ((j < length t.rows) × HoldOne t c p j)

-- at each column
abbrev pub AreAlike : Tab → List ℕ → Type 0
AreAlike t table = (c : ℕ) → c < t.width → AreAlikeAt t c table

-- the rows of m are noted at their variables, both have one width, and the table tells which rows of t hold the same symbol at a column
pub record AreSides (s : Tab) (m : ℕ) (t : Tab) (rows_of table : List ℕ) : Type 0 where
  pub symbols : AreVarsBelow (length rows_of) s
  pub noted : AreNoted s m rows_of
  pub width : s.width ≡ t.width
  pub small : length t.rows ≤ 64
  pub room : 8192 ≤ length table
  pub alike : AreAlike t table
