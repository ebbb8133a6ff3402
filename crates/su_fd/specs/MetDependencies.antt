-- Lists of values that meet functional dependencies.
-- lies in: all attributes of a dependency are in a set; agree: the same values at the attributes of a set
-- meets: lists that agree on a dependency's left side agree on its right side
use Rattle.std.specs.Prelude.{◌≡◌, ℕ, IsTrue, List, get_or, Contains}
use Rattle.std.specs.Ordering.{nat_cmp}
use Rattle.std.specs.FinSet.{FinSet, contains, is_subset}
use Rattle.su_base.specs.declared.values.Value.{Value}
use Rattle.su_fd.specs.declared.dependencies.Fd.{Fd}

-- all attributes of the dependency are in the set
pub record LiesIn (f : Fd) (has : FinSet nat_cmp) : Type 0 where
  pub left : IsTrue (is_subset f.left has)
  pub right : IsTrue (is_subset f.right has)

-- the two lists have the same values at the attributes of the set
abbrev pub Agree : FinSet nat_cmp → List Value → List Value → Type 0
Agree s x y = (a : ℕ) (d : Value) → IsTrue (contains s a) → get_or x a d ≡ get_or y a d

-- any two of the lists that agree on the left side of one of the dependencies agree on its right side
abbrev pub Meets : List Fd → List (List Value) → Type 0
Meets fds universe = (f : Fd) (u t : List Value) → Contains fds f → Contains universe u → Contains universe t → Agree f.left u t → Agree f.right u t
