-- What candidates show: the values of terms under the valuations that fit them.
-- symbol: a constant or a variable; term: a code or a variable; code: a value's place in `values`, from 0; spot: where a row of codes has a term
-- edge: variables, and the rows that they may have together; es, fs, e, g: edges; v: a code for each variable; h: a value for each term
-- merged body: edges made one; over: there is more than was asked for; nothing: no valuation fits it
-- No public contract cites this module.
use Rattle.std.specs.Prelude.{◌≡◌, ◌<◌, ◌++◌, ◌⊎◌, ℕ, true, List, [], ◌∷◌, map, length}
use Rattle.std.specs.List.{AllZip}
use Rattle.su_exec.specs.declared.merging.Merged.{Merged}
use Rattle.su_exec.specs.declared.merging.Merged.TheVariants.{Whole, Over, Nothing}
use Rattle.su_base.specs.declared.values.Value.{Value}
use Rattle.su_tableau.specs.declared.symbols.Sym.{Sym}
use Rattle.su_tableau.specs.declared.symbols.Sym.TheVariants.{Const, Var}
use Rattle.su_exec.specs.declared.checks.CodedSymbol.{CodedSymbol}
use Rattle.su_exec.specs.declared.checks.CodedSymbol.TheVariants.{Code, Variable}
use Rattle.su_exec.specs.declared.checks.Check.{Check}
use Rattle.su_exec.specs.declared.checks.Spot.{Spot}
use Rattle.su_exec.specs.declared.tasks.Compared.{Compared}
use Rattle.su_exec.specs.inside.Checks.{HasTerm, IsSpotIn, code_of, spot_code, vars_of}
use Rattle.su_reduce.specs.Codes.{decode}
use Rattle.su_rel.specs.ExactRows.{AreExactlyRows}
use Rattle.su_rel.specs.MoreThan.{AreMoreThan}
use Rattle.su_exec.specs.inside.Edges.{Edge, Fits, has}

-- the term stands for the symbol
abbrev pub IsTermOf : List Value → Sym → CodedSymbol → Type 0
IsTermOf values (Const value) term = (code : ℕ) × (term ≡ Code code) × (code < length values) × (decode values code ≡ value)
IsTermOf values (Var k) term = term ≡ Variable k

-- the terms stand for the symbols
abbrev pub AreSymbolTerms : List Value → List Sym → List CodedSymbol → Type 0
AreSymbolTerms values symbols terms = AllZip (IsTermOf values) symbols terms

-- the check stands for the comparison
pub record IsCheckOf (values : List Value) (compared : Compared) (check : Check) : Type 0 where
  pub left : IsTermOf values compared.left check.left
  pub op : check.op ≡ compared.op
  pub right : IsTermOf values compared.right check.right

-- the checks stand for the comparisons
abbrev pub AreChecksOf : List Value → List Compared → List Check → Type 0
AreChecksOf values comparisons checks = AllZip (IsCheckOf values) comparisons checks

-- the edges, or one of no variables where there are none
abbrev pub HasSomeEdge : List (Edge ℕ) → List (Edge ℕ) → Type 0
HasSomeEdge es fs = (0 < length fs) × ((es ≡ fs) ⊎ ((es ≡ []) × (fs ≡ record { vars = []; rows = [] ∷ [] } ∷ [])))

-- the values of the terms
abbrev pub term_values : List Value → List CodedSymbol → (ℕ → ℕ) → List Value
term_values values terms v = map (λ t. decode values (code_of v t)) terms

-- the variables of the terms
abbrev pub term_vars : List CodedSymbol → List ℕ
term_vars [] = []
term_vars (t ∷ ts) = vars_of t ++ term_vars ts

-- a spot for each term, in rows over these variables
abbrev pub AreSpotsOf : List ℕ → List CodedSymbol → List Spot → Type 0
AreSpotsOf vars terms spots = AllZip (λ term spot. HasTerm vars [] term spot × IsSpotIn (length vars) 0 spot) terms spots

-- the values at the spots of a row of codes
abbrev pub spot_values : List Value → List Spot → List ℕ → List Value
spot_values values spots row = map (λ spot. decode values (spot_code spot row [])) spots

-- a valuation that fits the edge gives the terms these values
pub record IsShown (values : List Value) (e : Edge ℕ) (terms : List CodedSymbol) (h : List Value) : Type 0 where
  pub valuation : ℕ → ℕ
  pub fits : Fits valuation e
  pub gives : term_values values terms valuation ≡ h

-- what a merged body is has each variable of the terms
abbrev pub HasVars : List CodedSymbol → Merged → Type 0
HasVars terms (Whole g) = (k : ℕ) → has (term_vars terms) k ≡ true → has g.vars k ≡ true
HasVars terms Over = Unit {0}
HasVars terms Nothing = Unit {0}

-- the rows are what a merged body shows, ascending, each once
abbrev pub IsShownBy : List Value → List CodedSymbol → Merged → List (List Value) → Type 0
IsShownBy values terms (Whole g) rows = AreExactlyRows (IsShown values g terms) rows
IsShownBy values terms Over rows = ⊥
IsShownBy values terms Nothing rows = rows ≡ []

-- a merged body shows more than n lists of values, or was found to do so
abbrev pub IsMoreBy : List Value → List CodedSymbol → ℕ → Merged → Type 0
IsMoreBy values terms n (Whole g) = AreMoreThan n (IsShown values g terms)
IsMoreBy values terms n Over = Unit {0}
IsMoreBy values terms n Nothing = ⊥
