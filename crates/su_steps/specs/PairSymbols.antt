-- The symbols of places, and comparisons of symbols.
-- pair: a variable and an attribute, which stand for the symbol of number v * n + a, where there are n attributes
use Rattle.std.specs.Prelude.{ℕ, ◌+◌, ◌*◌, List, map, get_or}
use Rattle.su_where.specs.declared.operators.Op.{Op}
use Rattle.su_where.specs.declared.literals.Operand.{Operand}
use Rattle.su_where.specs.declared.literals.Operand.TheVariants as operand
use Rattle.su_where.specs.declared.literals.Literal.{Literal}
use Rattle.su_tableau.specs.declared.symbols.Sym.{Sym}
use Rattle.su_tableau.specs.declared.symbols.Sym.TheVariants.{Const, Var}
use Rattle.su_query.specs.declared.places.Place.{Place}

-- a comparison of two symbols
pub record SymbolComparison : Type 0 where
  pub left : Sym
  pub op : Op
  pub right : Sym

-- the number of a pair
abbrev pub pair : ℕ → ℕ → ℕ → ℕ
pair n v a = v * n + a

-- the symbol of a place, by the place's number
abbrev pub place_symbol : ℕ → List Place → ℕ → Sym
place_symbol n places i = let p : Place = get_or places i (record { variable = 0; attribute = 0 }) in Var (pair n p.variable p.attribute)

-- the symbol of a side of a comparison
abbrev pub operand_symbol : ℕ → List Place → Operand → Sym
operand_symbol n places (operand.Place i) = place_symbol n places i
operand_symbol n places (operand.Const c) = Const c

-- the comparison of symbols that a literal makes
abbrev pub compared : ℕ → List Place → Literal → SymbolComparison
compared n places l = record { left = operand_symbol n places l.left; op = l.op; right = operand_symbol n places l.right }

-- the comparisons of a disjunct
abbrev pub comparisons : ℕ → List Place → List Literal → List SymbolComparison
comparisons n places d = map (compared n places) d
