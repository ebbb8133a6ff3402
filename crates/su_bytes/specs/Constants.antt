-- Tableaux, and terms of queries, whose constants are of bytes, and terms that compare nothing.
-- of bytes: a text that is a list of numbers below 256, or a whole number
use Rattle.std.specs.Prelude.{◌≡◌, List, [], All}
use Rattle.su_tableau.specs.Tableaux.{Tab}
use Rattle.su_tableau.specs.Bytes.{IsByteSymbol, HasByteConstants}
use Rattle.su_steps.specs.declared.results.Term.{Term}

-- each symbol of the head and of the rows is a variable or a constant of bytes
pub record HasByteSymbols (t : Tab) : Type 0 where
  pub head : All IsByteSymbol t.head
  pub rows : HasByteConstants t

-- so it is with each term's tableau
abbrev pub AreByteTerms : List Term → Type 0
AreByteTerms terms = All (λ (t : Term). HasByteSymbols t.tableau) terms

-- the terms have no comparisons
abbrev pub CompareNothing : List Term → Type 0
CompareNothing terms = All (λ (t : Term). t.tableau.operators ≡ []) terms
