-- Where a variable stands in one row.
-- left out: a column that is not looked at, where there is one
-- No public contract cites this module.
use Rattle.std.specs.Prelude.{◌≢◌, ℕ, List, Option, Some}
use Rattle.su_tableau.specs.declared.symbols.Sym.{Sym}
use Rattle.su_tableau.specs.declared.symbols.Sym.TheVariants.{Var}
use Rattle.su_tableau.specs.Parts.{Cell}

-- the row holds the variable, at another column than the one that is left out
pub record StandsElsewhere (row : List Sym) (k : ℕ) (but : Option ℕ) : Type 0 where
  pub column : ℕ
  pub cell : Cell row column (Var k)
  pub other : but ≢ Some column
