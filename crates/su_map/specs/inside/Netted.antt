-- The tables of a search, as its contracts see them.
-- base: the targets of a row by itself; near: the rows that may share a variable with it
-- agree: the targets of another row that go with one of its own
-- No public contract cites this module.
use Rattle.std.specs.Prelude.{ℕ, ◌+◌, ◌*◌, ◌≤◌, get_or, length}
use Rattle.su_tableau.specs.Tableaux.{Tab}
use Rattle.su_map.specs.Lists.{row_of}
pub use Rattle.su_map.specs.Netted.{Netted}
use Rattle.su_map.specs.Candidates.{KeepsConstants, MapAlike}

-- the targets that row r may have by itself
abbrev pub base_of : Netted → ℕ → ℕ
base_of net r = get_or net.base r 0

-- the rows that share a variable with row r, and maybe others
abbrev pub near_of : Netted → ℕ → ℕ
near_of net r = get_or net.near r 0

-- the targets of row q that agree with target p of row r
abbrev pub agree_of : Netted → ℕ → ℕ → ℕ → ℕ
agree_of net r q p = get_or net.agree (r * 4096 + q * 64 + p) 0

-- it has the room for n rows
pub record HasRoom (n : ℕ) (net : Netted) : Type 0 where
  pub base : n ≤ length net.base
  pub near : n ≤ length net.near
  pub agree : n * 4096 ≤ length net.agree

-- row i of s goes to row j of t by itself
pub record IsTarget (s t : Tab) (i j : ℕ) : Type 0 where
  pub constants : KeepsConstants (row_of s i) (row_of t j)
  pub head_symbols : MapAlike s.head t.head (row_of s i) (row_of t j)
  pub itself : MapAlike (row_of s i) (row_of t j) (row_of s i) (row_of t j)
