-- What merging a body comes to.
-- body: edges that are to agree, and checks that are to hold of the values that codes stand for
-- No public contract cites this module.
use Rattle.std.specs.Prelude.{◌≡◌, ◌<◌, ◌⊎◌, ℕ, Bool, true, false, Option, Some, List, [], ◌∷◌, ◌++◌, map, length, slice_index_or}
use Rattle.su_exec.specs.declared.checks.Check.{Check}
use Rattle.su_exec.specs.declared.merging.End.{End}
use Rattle.su_exec.specs.declared.merging.End.TheVariants.{Empty, One, Past as Gone}
use Rattle.su_exec.specs.declared.merging.Step.{Step}
use Rattle.su_exec.specs.declared.merging.Step.TheVariants.{Joined, Past}
use Rattle.su_exec.specs.declared.merging.Merged.{Merged}
use Rattle.su_exec.specs.declared.merging.Merged.TheVariants.{Whole, Over, Nothing}
use Rattle.su_exec.specs.inside.Checks.{check_vars}
use Rattle.su_exec.specs.inside.Edges.{Edge, FitsAll, Keeps, among, always, has}
use Rattle.su_base.specs.Lists.{AllDiffer}
use Rattle.su_rel.specs.MoreThan.{AreMoreThan}
use Rattle.su_exec.specs.inside.Joins.{IsUpTo}

-- each needed variable, and each that a check compares, is in an edge
abbrev pub AreThere : List ℕ → List Check → List (Edge ℕ) → Type 0
AreThere needed checks es = (k : ℕ) → has (needed ++ check_vars checks) k ≡ true → among es k ≡ true

-- the variable is needed, or in an edge or a check
abbrev pub IsWanted : List ℕ → List (Edge ℕ) → List Check → ℕ → Type 0
IsWanted needed es checks k = (has needed k ≡ true) ⊎ ((among es k ≡ true) ⊎ (has (check_vars checks) k ≡ true))

-- none of the variables is another's
abbrev pub AreAlone : List ℕ → List ℕ → Type 0
AreAlone vars others = (k : ℕ) → has vars k ≡ true → has others k ≡ false

-- the body gives the variables these codes
pub record IsGiven (vars : List ℕ) (es : List (Edge ℕ)) (s : (ℕ → ℕ) → Bool) (codes : List ℕ) : Type 0 where
  pub valuation : ℕ → ℕ
  pub fits : FitsAll valuation es
  pub passes : s valuation ≡ true
  pub gives : map valuation vars ≡ codes

-- the body gives nothing
abbrev pub IsEmpty : List (Edge ℕ) → ((ℕ → ℕ) → Bool) → Type 0
IsEmpty es s = (v : ℕ → ℕ) → FitsAll v es → s v ≡ true → ⊥

-- there is a bound, and the body gives the variables more lists of codes than it
pub record HasMore (vars : List ℕ) (most : Option ℕ) (es : List (Edge ℕ)) (s : (ℕ → ℕ) → Bool) : Type 0 where
  pub bound : ℕ
  pub is : most ≡ Some bound
  pub many : AreMoreThan bound (IsGiven vars es s)

-- more rows than the bound over needed variables, each of which a valuation of the body gives for each of the rest
pub record IsOver (needed : List ℕ) (most : Option ℕ) (es : List (Edge ℕ)) (s : (ℕ → ℕ) → Bool) (rest : List (Edge ℕ)) (u : (ℕ → ℕ) → Bool) : Type 0 where
  pub vars : List ℕ
  pub rows : List (List ℕ)
  pub many : ¬ IsUpTo most (length rows)
  pub differ : AllDiffer rows
  pub within : (k : ℕ) → has vars k ≡ true → has needed k ≡ true
  pub each : (i : ℕ) → i < length rows → (v : ℕ → ℕ) → FitsAll v rest → u v ≡ true → IsGiven vars es s (slice_index_or rows i [])
  pub none : (v : ℕ → ℕ) → FitsAll v es → s v ≡ true → FitsAll v rest × (u v ≡ true)

-- what a merged body says of the needed variables
abbrev pub IsMerged : List ℕ → Option ℕ → List (Edge ℕ) → ((ℕ → ℕ) → Bool) → Merged → Type 0
IsMerged needed most es s (Whole g) = Keeps needed es s (g ∷ []) always × ((k : ℕ) → has needed k ≡ true → has g.vars k ≡ true)
IsMerged needed most es s Over = HasMore needed most es s
IsMerged needed most es s Nothing = IsEmpty es s

-- what is said of a body, by whether the rest beside a part that is past the bound gives anything
abbrev pub IsTold : List (Edge ℕ) → ((ℕ → ℕ) → Bool) → Merged → Type 0
IsTold es s (Whole g) = ⊥
IsTold es s Over = IsGiven [] es s []
IsTold es s Nothing = IsEmpty es s

-- ---- steps, and how they end

-- what a step makes of a body: it gives the needed variables the same values, or two were past the bound
abbrev pub IsStep : List ℕ → Option ℕ → List (Edge ℕ) → ((ℕ → ℕ) → Bool) → List (Edge ℕ) → ((ℕ → ℕ) → Bool) → Step → Type 0
IsStep needed most es s fs u Joined = Keeps needed es s fs u
IsStep needed most es s fs u Past = IsOver needed most es s fs u

-- the variables that are still needed after a step
abbrev pub still : List ℕ → Step → List ℕ
still needed Joined = needed
still needed Past = []

-- how many edges a step takes away
abbrev pub gone : Step → ℕ
gone Joined = 1
gone Past = 2

-- there is a bound, which the body passes if the rest gives anything; it gives nothing if the rest does not
pub record IsPast (needed : List ℕ) (most : Option ℕ) (es : List (Edge ℕ)) (s : (ℕ → ℕ) → Bool) (rest : List (Edge ℕ)) (u : (ℕ → ℕ) → Bool) : Type 0 where
  pub bound : ℕ
  pub is : most ≡ Some bound
  pub more : IsGiven [] rest u [] → HasMore needed most es s
  pub none : IsEmpty rest u → IsEmpty es s

-- what is said of a body when its merging ends
abbrev pub IsEnd : List ℕ → Option ℕ → List (Edge ℕ) → ((ℕ → ℕ) → Bool) → List (Edge ℕ) → ((ℕ → ℕ) → Bool) → End → Type 0
IsEnd needed most es s fs u One = Keeps needed es s fs u
IsEnd needed most es s fs u Gone = IsPast needed most es s fs u
IsEnd needed most es s fs u Empty = IsEmpty es s

-- what is said of what is left then
abbrev pub IsRest : List ℕ → List (Edge ℕ) → List Check → End → Type 0
IsRest needed fs cs One = (length fs ≡ 1) × AreThere needed cs fs
IsRest needed fs cs Gone = AreThere [] cs fs × (fs ≡ [] → cs ≡ [])
IsRest needed fs cs Empty = Unit {0}
