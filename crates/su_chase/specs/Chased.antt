-- Chased tableaux: rows and head by their names.
-- settled: the chase of a chased tableau changes nothing, for the partition of single symbols is closed
use Rattle.std.specs.Prelude.{◌≡◌, ℕ, ◌<◌, ◌≤◌, IsTrue, List, map, length, All}
use Rattle.std.specs.FinSet.{contains}
use Rattle.su_base.specs.declared.values.Value.{Value}
use Rattle.su_fd.specs.declared.dependencies.Fd.{Fd}
use Rattle.su_tableau.specs.declared.symbols.Sym.{Sym}
use Rattle.su_tableau.specs.Tableaux.{Tab}
use Rattle.su_tableau.specs.Valuations.{Ext}
use Rattle.su_tableau.specs.Kinds.{Kinds, IsTyped}
use Rattle.su_chase.specs.declared.chasing.Chased.{Chased}
use Rattle.su_chase.specs.declared.chasing.Chased.TheVariants as chased
use Rattle.su_chase.specs.Chase.{IsClosedPartition, IsClassName, IsConsistent, IsClash}

-- all attributes of the dependency are below n
pub record IsFdBelow (n : ℕ) (f : Fd) : Type 0 where
  pub left : (a : ℕ) → IsTrue (contains f.left a) → a < n
  pub right : (a : ℕ) → IsTrue (contains f.right a) → a < n

-- rows of one width up to 128, which is above every attribute of the dependencies, and at most 20000 of them
pub record AreRows (fds : List Fd) (rows : List (List Sym)) : Type 0 where
  pub width : ℕ
  pub few : length rows ≤ 20000
  pub narrow : width ≤ 128
  pub widths : All (λ row. length row ≡ width) rows
  pub below : All (IsFdBelow width) fds

-- no two constants meet, and c is t by its names
pub record IsChased (fds : List Fd) (t c : Tab) : Type 0 where
  pub name : Sym → Sym
  pub names : (x : Sym) → IsClassName fds t.rows x (name x)
  pub consistent : IsConsistent fds t.rows
  pub is : c ≡ record t { rows = map (map name) t.rows; head = map name t.head }

-- what the chase answers: the chased tableau, or the clash
abbrev pub IsChaseOf : List Fd → Tab → Chased → Type 0
IsChaseOf fds t (chased.Closed c) = IsChased fds t c
IsChaseOf fds t (chased.Clash less greater) = IsClash fds t.rows less greater

-- the answers of the chased tableau; where the chase clashes there is none
abbrev pub ExtOf : Chased → List (List Value) → List Value → Type 0
ExtOf (chased.Closed c) universe h = Ext c universe h
ExtOf (chased.Clash less greater) universe h = ⊥

-- the chased tableau, if there is one, is well typed
abbrev pub IsTypedOf : Kinds → Chased → Type 0
IsTypedOf kinds (chased.Closed c) = IsTyped kinds c
IsTypedOf kinds (chased.Clash less greater) = Unit {0}

-- the chased tableau, if there is one, is settled
abbrev pub IsSettledOf : List Fd → Chased → Type 0
IsSettledOf fds (chased.Closed c) = IsClosedPartition fds c.rows (λ x. x)
IsSettledOf fds (chased.Clash less greater) = Unit {0}
