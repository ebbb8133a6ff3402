-- What a search reads: the targets of each row by itself, and which targets of two rows agree.
-- net: for each row and symbol the targets that it leaves, made once for a target tableau
-- No public contract cites this module.
use Rattle.std.specs.Prelude.{◌≡◌, ◌≢◌, ℕ, ◌<◌, ◌↔◌, List, get_or, length, Contains}
use Rattle.std.specs.Int.{bit_at}
use Rattle.su_tableau.specs.declared.symbols.Sym.TheVariants.{Var}
use Rattle.su_tableau.specs.Tableaux.{Tab}
use Rattle.su_map.specs.Lists.{row_of}
use Rattle.su_map.specs.Candidates.{KeepsConstants, MapAlike}
use Rattle.su_map.specs.inside.Netted.{Netted, base_of, near_of, agree_of, HasRoom, IsTarget}

-- rows i and q of s share a variable that is not in the head
pub record Share (s : Tab) (i q : ℕ) : Type 0 where
  pub variable : ℕ
  pub in_one : Contains (row_of s i) (Var variable)
  pub in_other : Contains (row_of s q) (Var variable)
  pub free : Contains s.head (Var variable) → ⊥

-- base has for each row of m the targets in k to which it goes by itself
abbrev pub HasBase : Tab → ℕ → Tab → ℕ → List ℕ → Type 0
HasBase s m t k base =
    (i j : ℕ) → i < length s.rows → bit_at m i ≡ 1 → (bit_at (get_or base i 0) j ≡ 1) ↔ ((j < length t.rows) × (bit_at k j ≡ 1) × IsTarget s t i j)

-- near has for each row of m the rows of m that share a variable with it, and maybe others
abbrev pub HasNear : Tab → ℕ → List ℕ → Type 0
HasNear s m near = (i q : ℕ) → i < length s.rows → q < length s.rows → bit_at m i ≡ 1 → bit_at m q ≡ 1 → i ≢ q → Share s i q → bit_at (get_or near i 0) q ≡ 1

-- the targets in the set are those among the targets of row q that agree with target p of row i
abbrev pub AgreesAt : Tab → Tab → ℕ → ℕ → ℕ → ℕ → ℕ → Type 0
AgreesAt s t i q p targets set = (j : ℕ) → bit_at targets j ≡ 1 → (bit_at set j ≡ 1) ↔ MapAlike (row_of s i) (row_of t p) (row_of s q) (row_of t j)

-- the net tells of the rows of s in m and the rows of t in k
pub record IsNet (s : Tab) (m : ℕ) (t : Tab) (k : ℕ) (net : Netted) : Type 0 where
  pub room : HasRoom (length s.rows) net
  pub targets : net.targets ≡ length t.rows
  pub head_constants : KeepsConstants s.head t.head
  pub head_agrees : MapAlike s.head t.head s.head t.head
  pub base : HasBase s m t k net.base
  pub near : HasNear s m net.near
  pub agree : (i q p : ℕ) → i < length s.rows → q < length s.rows → bit_at m i ≡ 1 → bit_at m q ≡ 1 → i ≢ q → bit_at (near_of net i) q ≡ 1 → bit_at (base_of net i) p ≡ 1 → AgreesAt s t i q p (base_of net q) (agree_of net i q p)

-- the net tells of the rows of s in m and the rows of t in k, and maybe of more rows
pub record IsNetFor (s : Tab) (m : ℕ) (t : Tab) (k : ℕ) (net : Netted) : Type 0 where
  pub rows : ℕ
  pub targets : ℕ
  pub is_net : IsNet s rows t targets net
  pub has_rows : (i : ℕ) → bit_at m i ≡ 1 → bit_at rows i ≡ 1
  pub has_targets : (j : ℕ) → bit_at k j ≡ 1 → bit_at targets j ≡ 1
