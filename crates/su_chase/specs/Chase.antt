-- The chase: classes of the symbols of rows under functional dependencies.
-- partition: a label for each symbol, constants and variables; symbols with one label are together
-- closed: rows that are together at each left attribute of a dependency are together at each right one
-- class: symbols that every closed partition puts together; its name is its least constant, or else its least variable
-- clash: the least constant that shares its class with another one, and the least such other
use Rattle.std.specs.Prelude.{◌≡◌, ◌≢◌, ℕ, ◌≤◌, IsTrue, List, get_or, Contains}
use Rattle.std.specs.Ordering.{nat_cmp}
use Rattle.std.specs.FinSet.{FinSet, contains}
use Rattle.std.specs.declared.cmp.Ordering.TheVariants.{Greater}
use Rattle.su_base.specs.declared.values.Value.{Value}
use Rattle.su_base.specs.Value.{compare_values}
use Rattle.su_fd.specs.declared.dependencies.Fd.{Fd}
use Rattle.su_tableau.specs.declared.symbols.Sym.{Sym}
use Rattle.su_tableau.specs.declared.symbols.Sym.TheVariants.{Const, Var}
use Rattle.su_classes.specs.ClassNames.{InClass}

-- the two rows have the same labels at the attributes of the set
abbrev pub SameLabels : (Sym → Sym) → FinSet nat_cmp → List Sym → List Sym → Type 0
SameLabels label s r q = (a : ℕ) (d : Sym) → IsTrue (contains s a) → label (get_or r a d) ≡ label (get_or q a d)

-- labels that keep each dependency on all rows
abbrev pub IsClosedPartition : List Fd → List (List Sym) → (Sym → Sym) → Type 0
IsClosedPartition fds rows label = (f : Fd) (r q : List Sym) → Contains fds f → Contains rows r → Contains rows q → SameLabels label f.left r q → SameLabels label f.right r q

-- every closed partition puts x and y together
abbrev pub InOneClass : List Fd → List (List Sym) → Sym → Sym → Type 0
InOneClass fds rows = InClass (IsClosedPartition fds rows)

-- x stands before y as a name, or is y: constants by their order, then variables by their numbers
abbrev pub IsNoLater : Sym → Sym → Type 0
IsNoLater (Const a) (Const b) = compare_values a b ≢ Greater
IsNoLater (Const a) (Var k) = Unit {0}
IsNoLater (Var j) (Const b) = ⊥
IsNoLater (Var j) (Var k) = j ≤ k

-- the name of x: the first symbol of its class
pub record IsClassName (fds : List Fd) (rows : List (List Sym)) (x name : Sym) : Type 0 where
  pub member : InOneClass fds rows x name
  pub least : (y : Sym) → InOneClass fds rows x y → IsNoLater name y

-- no class has two constants
abbrev pub IsConsistent : List Fd → List (List Sym) → Type 0
IsConsistent fds rows = (a b : Value) → InOneClass fds rows (Const a) (Const b) → a ≡ b

-- less is the least constant that shares its class with another one, and greater the least such other
pub record IsClash (fds : List Fd) (rows : List (List Sym)) (less greater : Value) : Type 0 where
  pub differ : less ≢ greater
  pub together : InOneClass fds rows (Const less) (Const greater)
  pub least : (a b : Value) → a ≢ b → InOneClass fds rows (Const a) (Const b) → compare_values less a ≢ Greater
  pub other : (b : Value) → less ≢ b → InOneClass fds rows (Const less) (Const b) → compare_values greater b ≢ Greater
