-- Which dependencies lie in an object. An object is seen as the set of its attributes.
-- lies in: all attributes of the dependency are the object's
-- kept nowhere: no object has all attributes of the dependency, so that no stored row is ever refused by it
use Rattle.std.specs.Prelude.{ℕ, ◌≡◌, ◌<◌, Bool, ◌&&◌, false, List, length, map, filter, get_or}
use Rattle.std.specs.List.{list_any}
use Rattle.std.specs.Ordering.{nat_cmp}
use Rattle.std.specs.FinSet.{FinSet, is_subset}
use Rattle.su_fd.specs.declared.dependencies.Fd.{Fd}

-- whether the dependency lies in an object
abbrev pub lies_in : FinSet nat_cmp → Fd → Bool
lies_in s f = is_subset f.left s && is_subset f.right s

-- whether it lies in one of these
abbrev pub lies_in_any : List (FinSet nat_cmp) → Fd → Bool
lies_in_any objects f = list_any (λ s. lies_in s f) objects

-- those that lie in an object, in their order
abbrev pub lying_in : FinSet nat_cmp → List Fd → List Fd
lying_in s fds = filter (lies_in s) fds

-- those that lie in one of these, in their order
abbrev pub lying_in_any : List (FinSet nat_cmp) → List Fd → List Fd
lying_in_any objects fds = filter (lies_in_any objects) fds

-- whether the i-th dependency lies in one of these
abbrev pub is_kept : List Fd → List (FinSet nat_cmp) → ℕ → Bool
is_kept fds objects i = get_or (map (lies_in_any objects) fds) i false

-- the i-th dependency lies in no object
abbrev pub IsKeptNowhere : List Fd → List (FinSet nat_cmp) → ℕ → Type 0
IsKeptNowhere fds objects i = (i < length fds) × (is_kept fds objects i ≡ false)
