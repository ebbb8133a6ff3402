-- Renames: symbols put in the place of others, one after another. What a symbol is called in the end is a label of it.
-- rename: of two symbols the one that goes and the one that takes its place; renamed: what a symbol is called
-- No public contract cites this module.
use Rattle.std.specs.Prelude.{◌≡◌, ◌≢◌, ◌+◌, ◌≤◌, ℕ, ◌<◌, IsTrue, Bool, false, not, ◌||◌, ◌==◌, if◌then◌else◌, List, [], ◌∷◌, All, length, get_or, take}
use Rattle.std.specs.List.{list_all, range_with_len}
use Rattle.std.specs.Ordering.{nat_cmp, is_eq}
use Rattle.std.specs.FinSet.{FinSet, contains}
use Rattle.su_base.specs.declared.values.Value.{Value}
use Rattle.su_base.specs.Value.{compare_values}
use Rattle.su_fd.specs.declared.dependencies.Fd.{Fd}
use Rattle.su_tableau.specs.declared.symbols.Sym.{Sym}
use Rattle.su_tableau.specs.declared.symbols.Sym.TheVariants.{Const, Var}
use Rattle.su_chase.specs.Chase.{SameLabels}
use Rattle.su_clash.specs.declared.renaming.Rename.{Rename}
use Rattle.su_clash.specs.declared.renaming.Pair.{Pair}
use Rattle.su_clash.specs.declared.replaying.Front.{Front}
use Rattle.su_clash.specs.declared.steps.Step.{Step}
use Rattle.su_clash.specs.declared.thinning.Refutation.{Refutation}
use Rattle.su_clash.specs.Derivations.{fd_of, KeepsStep, IsDerivation, Clashes}

-- whether two symbols are one
abbrev pub is_same : Sym → Sym → Bool
is_same (Const a) (Const b) = is_eq (compare_values a b)
is_same (Const a) (Var k) = false
is_same (Var j) (Const b) = false
is_same (Var j) (Var k) = j == k

-- what a symbol is called after one rename
abbrev pub put : Rename → Sym → Sym
put r x = if is_same r.from x then r.to else x

-- what it is called after all
abbrev pub renamed : List Rename → Sym → Sym
renamed [] x = x
renamed (r ∷ rs) x = renamed rs (put r x)

-- constants are called by themselves, and so is whatever some symbol is called
pub record AreNames (renames : List Rename) : Type 0 where
  pub constants : (c : Value) → renamed renames (Const c) ≡ Const c
  pub again : (x : Sym) → renamed renames (renamed renames x) ≡ renamed renames x

-- the new renames make the symbols of some pairs one: what was one stays one, and each label that agrees with the old names and gives the pairs one label agrees with the new ones
pub record Makes (one : (Sym → Sym) → Type 0) (old new : List Rename) : Type 0 where
  pub made : one (renamed new)
  pub kept : (x y : Sym) → renamed old x ≡ renamed old y → renamed new x ≡ renamed new y
  pub sound : (label : Sym → Sym) → ((x : Sym) → label x ≡ label (renamed old x)) → one label → (x : Sym) → label x ≡ label (renamed new x)
  pub names : AreNames old → AreNames new

-- the two symbols have one label
abbrev pub AreOne : Sym → Sym → (Sym → Sym) → Type 0
AreOne x y label = label x ≡ label y

-- two different constants, which labels that agree with the names and give the pairs one label take for one
pub record Meet (one : (Sym → Sym) → Type 0) (old : List Rename) (p : Pair) : Type 0 where
  pub differ : p.one ≢ p.other
  pub forced : (label : Sym → Sym) → ((x : Sym) → label x ≡ label (renamed old x)) → one label → label (Const p.one) ≡ label (Const p.other)

-- the two rows have one label at the attribute, if it is in the set
abbrev pub OneAt : FinSet nat_cmp → List Sym → List Sym → ℕ → (Sym → Sym) → Type 0
OneAt set first second a label = (d : Sym) → IsTrue (contains set a) → label (get_or first a d) ≡ label (get_or second a d)

-- the two rows have one label at each attribute of the set
abbrev pub RowsAreOne : FinSet nat_cmp → List Sym → List Sym → (Sym → Sym) → Type 0
RowsAreOne set first second label = SameLabels label set first second

-- a dependency and two rows are there
pub record IsStepOf (fds : List Fd) (rows : List (List Sym)) (s : Step) : Type 0 where
  pub fd : s.fd < length fds
  pub first : s.first < length rows
  pub second : s.second < length rows

-- the rows of the step agree on its left side, by these names
pub record FollowsBy (fds : List Fd) (rows : List (List Sym)) (renames : List Rename) (s : Step) : Type 0 where
  pub named : IsStepOf fds rows s
  pub left : SameLabels (renamed renames) (fd_of fds s).left (get_or rows s.first []) (get_or rows s.second [])

-- and not on its right side
pub record BreaksBy (fds : List Fd) (rows : List (List Sym)) (renames : List Rename) (s : Step) : Type 0 where
  pub follows : FollowsBy fds rows renames s
  pub broken : ¬ SameLabels (renamed renames) (fd_of fds s).right (get_or rows s.first []) (get_or rows s.second [])

-- whether the rows are called the same at the attribute, if it is in the set
abbrev pub is_one_at : FinSet nat_cmp → List Sym → List Sym → (Sym → Sym) → ℕ → Bool
is_one_at set first second label a = not (contains set a) || is_same (label (get_or first a (Var 0))) (label (get_or second a (Var 0)))

-- whether the names keep the step: its rows are called the same at each right attribute
abbrev pub is_kept : List Fd → List (List Sym) → List Rename → Step → Bool
is_kept fds rows renames s = list_all (is_one_at (fd_of fds s).right (get_or rows s.first []) (get_or rows s.second []) (renamed renames)) (range_with_len 0 128)

-- the renames stand for the steps: what symbols are called keeps each step, and every partition that does gives a symbol and what it is called one label
pub record AreRenamesOf (fds : List Fd) (rows : List (List Sym)) (steps : List Step) (renames : List Rename) : Type 0 where
  pub kept : All (KeepsStep fds rows (renamed renames)) steps
  pub sound : (label : Sym → Sym) → All (KeepsStep fds rows label) steps → (x : Sym) → label x ≡ label (renamed renames x)
  pub names : AreNames renames

-- the steps make the two constants equal
pub record RefutesBy (fds : List Fd) (rows : List (List Sym)) (steps : List Step) (p : Pair) : Type 0 where
  pub derivation : IsDerivation fds rows steps
  pub clash : Clashes fds rows steps p.one p.other

-- so do the first ones, so many
pub record IsFront (fds : List Fd) (rows : List (List Sym)) (steps : List Step) (f : Front) : Type 0 where
  pub some : f.count < length steps + 1
  pub refutes : RefutesBy fds rows (take f.count steps) f.pair

-- the steps of a refutation
abbrev pub IsRefutation : List Fd → List (List Sym) → Refutation → Type 0
IsRefutation fds rows r = RefutesBy fds rows r.steps r.pair

-- the step is taken: its rows have one label at each right attribute
abbrev pub StepIsTaken : List Fd → List (List Sym) → Step → (Sym → Sym) → Type 0
StepIsTaken fds rows s label = KeepsStep fds rows label s

-- no step breaks anything by these names
abbrev pub NoneBreaks : List Fd → List (List Sym) → List Rename → Type 0
NoneBreaks fds rows renames = (s : Step) → ¬ BreaksBy fds rows renames s

-- all rows have one width, of at most 128
pub record HaveOneWidth (rows : List (List Sym)) : Type 0 where
  pub width : ℕ
  pub narrow : width ≤ 128
  pub all : All (λ row. length row ≡ width) rows
