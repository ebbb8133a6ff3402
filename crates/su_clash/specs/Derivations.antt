-- Derivations: symbols of some rows made equal step by step, by functional dependencies.
-- step: a dependency and two rows, all by their numbers from 0; rows are lists of symbols, one per attribute
-- partition: a label for each symbol; it keeps a step where the two rows have the same labels at the right attributes
-- equal by some steps: every partition that keeps these gives both symbols one label
-- follows: the two rows have equal symbols at the left attributes, by the steps before
-- derivation: steps each of which follows; it refutes the rows where it makes two different constants equal
use Rattle.std.specs.Prelude.{◌≢◌, ℕ, ◌<◌, ◌≤◌, IsTrue, List, [], length, take, get_or, All}
use Rattle.std.specs.List.{remove}
use Rattle.std.specs.FinSet.{empty, contains}
use Rattle.su_base.specs.declared.values.Value.{Value}
use Rattle.su_fd.specs.declared.dependencies.Fd.{Fd}
use Rattle.su_tableau.specs.declared.symbols.Sym.{Sym}
use Rattle.su_tableau.specs.declared.symbols.Sym.TheVariants.{Const}
use Rattle.su_classes.specs.ClassNames.{InClass}
use Rattle.su_chase.specs.Chase.{SameLabels}
use Rattle.su_clash.specs.declared.steps.Step.{Step}

-- the dependency of a step
abbrev pub fd_of : List Fd → Step → Fd
fd_of fds s = get_or fds s.fd (record { left = empty; right = empty })

-- the partition keeps the step
abbrev pub KeepsStep : List Fd → List (List Sym) → (Sym → Sym) → Step → Type 0
KeepsStep fds rows label s = SameLabels label (fd_of fds s).right (get_or rows s.first []) (get_or rows s.second [])

-- x and y are equal by the steps
abbrev pub AreEqualBy : List Fd → List (List Sym) → List Step → Sym → Sym → Type 0
AreEqualBy fds rows steps = InClass (λ label. All (KeepsStep fds rows label) steps)

-- the step names a dependency and two rows, and follows from the steps before
pub record Follows (fds : List Fd) (rows : List (List Sym)) (before : List Step) (s : Step) : Type 0 where
  pub fd : s.fd < length fds
  pub first : s.first < length rows
  pub second : s.second < length rows
  pub left : (a : ℕ) (d : Sym) → IsTrue (contains (fd_of fds s).left a) → AreEqualBy fds rows before (get_or (get_or rows s.first []) a d) (get_or (get_or rows s.second []) a d)

-- each step follows from those before it
abbrev pub IsDerivation : List Fd → List (List Sym) → List Step → Type 0
IsDerivation fds rows steps = (k : ℕ) (d : Step) → k < length steps → Follows fds rows (take k steps) (get_or steps k d)

-- two different constants are equal by the steps
pub record Clashes (fds : List Fd) (rows : List (List Sym)) (steps : List Step) (one other : Value) : Type 0 where
  pub differ : one ≢ other
  pub equal : AreEqualBy fds rows steps (Const one) (Const other)

-- a derivation that makes two different constants equal
pub record Refutes (fds : List Fd) (rows : List (List Sym)) (steps : List Step) : Type 0 where
  pub derivation : IsDerivation fds rows steps
  pub one : Value
  pub other : Value
  pub clash : Clashes fds rows steps one other

-- none of the steps can be left out
abbrev pub AllAreNeeded : List Fd → List (List Sym) → List Step → Type 0
AllAreNeeded fds rows steps = (k : ℕ) → k < length steps → ¬ Refutes fds rows (remove steps k)

-- no fewer steps refute the rows
abbrev pub AreFewest : List Fd → List (List Sym) → List Step → Type 0
AreFewest fds rows steps = (others : List Step) → Refutes fds rows others → length steps ≤ length others
