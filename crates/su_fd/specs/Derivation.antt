-- How a closure comes about.
-- derivation of s: the numbers of the dependencies that are used, each time the first that adds to the set so far
use Rattle.std.specs.Prelude.{◌≡◌, ℕ, Bool, ◌&&◌, not, List, [], ◌∷◌, Some, None, position, slice_get, unwrap_or}
use Rattle.std.specs.Ordering.{nat_cmp}
use Rattle.std.specs.Option.{option_map}
use Rattle.std.specs.FinSet.{FinSet, is_subset, union, empty}
use Rattle.su_fd.specs.declared.dependencies.Fd.{Fd}

-- whether a dependency's left side is within a set and its right side isn't
abbrev pub adds : Fd → FinSet nat_cmp → Bool
adds f s = is_subset f.left s && not (is_subset f.right s)

-- the right side of the i-th dependency
abbrev pub right_side : List Fd → ℕ → FinSet nat_cmp
right_side fds i = unwrap_or (option_map (λ f. f.right) (slice_get fds i)) empty

-- again and again the first dependency that adds to the set, until none does
abbrev pub IsDerivation : List Fd → FinSet nat_cmp → List ℕ → Type 0
IsDerivation fds s [] = position (λ f. adds f s) fds ≡ None
IsDerivation fds s (i ∷ is) = (position (λ f. adds f s) fds ≡ Some i) × IsDerivation fds (union s (right_side fds i)) is

-- the set with the right sides of the dependencies of these numbers
abbrev pub with_right_sides : List Fd → FinSet nat_cmp → List ℕ → FinSet nat_cmp
with_right_sides fds s [] = s
with_right_sides fds s (i ∷ is) = with_right_sides fds (union s (right_side fds i)) is
