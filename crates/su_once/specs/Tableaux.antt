-- Of a tableau there is one kept set and one fold, and of a union one list of kept terms and one of covers.
-- kept, fold, cover: as in su_min
use Rattle.std.specs.Prelude.{◌≡◌, ℕ, List}
use Rattle.su_tableau.specs.Tableaux.{Tab}
use Rattle.su_map.specs.Lists.{IsFirst}
use Rattle.su_min.specs.declared.reduced.Reduced.{Reduced}
use Rattle.su_min.specs.Kept.{IsKept, IsFold, Minimised}
use Rattle.su_min.specs.Reduction.{IsReduced}

-- there is at most one first mapping
abbrev pub OneFirstMapping : Type 0
OneFirstMapping = (s : Tab) (m : ℕ) (t : Tab) (k : ℕ) (list other : List ℕ) → IsFirst s m t k list → IsFirst s m t k other → list ≡ other

-- there is at most one least set of kept rows
abbrev pub OneKeptSet : Type 0
OneKeptSet = (t : Tab) (m n : ℕ) → IsKept t m → IsKept t n → m ≡ n

-- there is at most one fold into it
abbrev pub OneFold : Type 0
OneFold = (t : Tab) (m : ℕ) (list other : List ℕ) → IsFold t m list → IsFold t m other → list ≡ other

-- a union of terms is reduced in at most one way
abbrev pub OneReduction : Type 0
OneReduction = (terms : List Minimised) (r s : Reduced) → IsReduced terms r → IsReduced terms s → r ≡ s
