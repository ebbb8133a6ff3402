-- What valuations that meet rows and comparisons give some symbols.
-- s: rows and comparisons of a task, as in Met; xs: symbols; h: a value for each
-- a candidate of a row is what the row's cells are given where the row alone is met; the values on one side of a link are what the variable is given there
use Rattle.std.specs.Prelude.{◌≡◌, ℕ, List, MatchOption, Option}
use Rattle.su_base.specs.declared.values.Value.{Value}
use Rattle.su_rel.specs.ExactRows.{AreExactlyRows}
use Rattle.su_rel.specs.MoreThan.{AreMoreThan}
use Rattle.su_tableau.specs.declared.symbols.Sym.{Sym}
use Rattle.su_tableau.specs.Valuations.{values_of}
use Rattle.su_why.specs.Met.{Asked, IsMet}

-- a valuation that meets s gives the symbols these values
pub record IsGiven (asked : Asked) (s : List ℕ) (xs : List Sym) (h : List Value) : Type 0 where
  pub met : IsMet asked s
  pub gives : values_of met.valuation xs ≡ h

-- exactly what the symbols are given, ascending; or there are more than may be
abbrev pub AreGiven : Asked → List ℕ → List Sym → ℕ → Option (List (List Value)) → Type 0
AreGiven asked s xs cap found = MatchOption found (AreMoreThan cap (IsGiven asked s xs)) (AreExactlyRows (IsGiven asked s xs))
