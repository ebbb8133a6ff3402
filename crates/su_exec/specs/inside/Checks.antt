-- Comparisons of codes, and where pairs of rows have what they compare.
-- term: a code, or a variable; check: a comparison of two terms
-- spot: where a pair of rows has a term; test: a comparison of two spots
-- No public contract cites this module.
use Rattle.std.specs.Prelude.{◌≡◌, ◌<◌, ◌&&◌, ◌||◌, ℕ, Bool, true, List, [], ◌∷◌, ◌++◌, map, length, slice_index_or, All}
use Rattle.std.specs.List.{list_all}
use Rattle.su_base.specs.declared.values.Value.{Value}
use Rattle.su_where.specs.Operator.{compares}
use Rattle.su_reduce.specs.Codes.{decode}
use Rattle.su_exec.specs.declared.checks.CodedSymbol.{CodedSymbol}
use Rattle.su_exec.specs.declared.checks.CodedSymbol.TheVariants.{Code, Variable}
use Rattle.su_exec.specs.declared.checks.Check.{Check}
use Rattle.su_exec.specs.declared.checks.Spot.{Spot}
use Rattle.su_exec.specs.declared.checks.Spot.TheVariants.{Code as Given, Left, Right}
use Rattle.su_exec.specs.declared.checks.Test.{Test}
use Rattle.su_exec.specs.inside.Edges.{has}

-- the code of a term
abbrev pub code_of : (ℕ → ℕ) → CodedSymbol → ℕ
code_of v (Code c) = c
code_of v (Variable k) = v k

-- whether the check holds of the values that the codes stand for
abbrev pub check_holds : List Value → (ℕ → ℕ) → Check → Bool
check_holds values v c = compares c.op (decode values (code_of v c.left)) (decode values (code_of v c.right))

-- all checks hold under the valuation
abbrev pub all_hold : List Value → List Check → (ℕ → ℕ) → Bool
all_hold values checks v = list_all (check_holds values v) checks

-- the variable of the term, if it is one
abbrev pub vars_of : CodedSymbol → List ℕ
vars_of (Code c) = []
vars_of (Variable k) = k ∷ []

-- the variables of the checks
abbrev pub check_vars : List Check → List ℕ
check_vars [] = []
check_vars (c ∷ cs) = vars_of c.left ++ (vars_of c.right ++ check_vars cs)

-- the code at a spot of two rows
abbrev pub spot_code : Spot → List ℕ → List ℕ → ℕ
spot_code (Given c) row other = c
spot_code (Left p) row other = slice_index_or row p 0
spot_code (Right p) row other = slice_index_or other p 0

-- the spot's place is in rows of these widths
abbrev pub IsSpotIn : ℕ → ℕ → Spot → Type 0
IsSpotIn left right (Given c) = Unit {0}
IsSpotIn left right (Left p) = p < left
IsSpotIn left right (Right p) = p < right

-- both sides of the test lie within rows of these widths
abbrev pub IsTestIn : ℕ → ℕ → Test → Type 0
IsTestIn left right test = IsSpotIn left right test.left × IsSpotIn left right test.right

-- whether the two rows pass the test, by the values that the codes stand for
abbrev pub test_passes : List Value → List ℕ → List ℕ → Test → Bool
test_passes values row other test = compares test.op (decode values (spot_code test.left row other)) (decode values (spot_code test.right row other))

-- the pair of rows passes all tests
abbrev pub all_pass : List Value → List Test → List ℕ → List ℕ → Bool
all_pass values tests row other = list_all (test_passes values row other) tests

-- where each valuation has the term, in what it gives these variables
abbrev pub HasTerm : List ℕ → List ℕ → CodedSymbol → Spot → Type 0
HasTerm xs ys term spot = (v : ℕ → ℕ) → spot_code spot (map v xs) (map v ys) ≡ code_of v term

-- ---- checks that become tests of rows over variables

-- the test says of what a valuation gives these variables what the check says of the valuation
abbrev pub IsTestFor : List ℕ → List ℕ → Check → Test → Type 0
IsTestFor xs ys check test = (values : List Value) (v : ℕ → ℕ) → test_passes values (map v xs) (map v ys) test ≡ check_holds values v check

-- the tests lie within rows over these variables
abbrev pub AreTestsIn : List ℕ → List ℕ → List Test → Type 0
AreTestsIn xs ys tests = All (IsTestIn (length xs) (length ys)) tests

-- what a valuation gives these variables passes the tests, and the checks hold under it
abbrev pub both_hold : List ℕ → List ℕ → List Value → (ℕ → ℕ) → List Test → List Check → Bool
both_hold xs ys values v tests checks = all_pass values tests (map v xs) (map v ys) && all_hold values checks v

-- the new tests and checks say what the old ones and the check say
abbrev pub TakesOne : List ℕ → List ℕ → Check → List Test → List Check → List Test → List Check → Type 0
TakesOne xs ys check tests later news rest = (values : List Value) (v : ℕ → ℕ) → both_hold xs ys values v news rest ≡ (both_hold xs ys values v tests later && check_holds values v check)

-- the tests and what is left of the checks say what the checks say
abbrev pub TakesAll : List ℕ → List ℕ → List Check → List Test → List Check → Type 0
TakesAll xs ys checks tests left = (values : List Value) (v : ℕ → ℕ) → all_hold values checks v ≡ both_hold xs ys values v tests left

-- each variable of the checks is one of these
abbrev pub AreOver : List ℕ → List ℕ → List Check → Type 0
AreOver xs ys checks = (k : ℕ) → has (check_vars checks) k ≡ true → (has xs k || has ys k) ≡ true
