-- Symbols whose variables are not told apart.
-- symbol: a constant, or a variable with a number; image_of: leaves constants as they are
-- No public contract cites this module.
use Rattle.su_tableau.specs.declared.symbols.Sym.{Sym}
use Rattle.su_tableau.specs.declared.symbols.Sym.TheVariants.{Var}
use Rattle.su_tableau.specs.Mapping.{image_of}

-- the symbol, with `Var 0` in place of any variable
abbrev pub with_one_variable : Sym → Sym
with_one_variable = image_of (λ k. Var 0)
