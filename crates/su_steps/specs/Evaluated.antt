-- Comparisons that are decided by the names of their sides.
-- evaluated: a comparison between two constants, or of a symbol with itself; so is each equality, whose sides have one name
use Rattle.std.specs.Prelude.{◌≡◌, Bool, true, false, IsTrue, if◌then◌else◌, nat_eq, List, [], ◌∷◌}
use Rattle.std.specs.declared.cmp.Ordering.TheVariants.{Equal as Same}
use Rattle.su_where.specs.declared.operators.Op.{Op}
use Rattle.su_where.specs.Operator.{compares, holds_in}
use Rattle.su_tableau.specs.declared.symbols.Sym.{Sym}
use Rattle.su_tableau.specs.declared.symbols.Sym.TheVariants.{Const, Var}
use Rattle.su_steps.specs.PairSymbols.{SymbolComparison}

-- both sides are constants, or one variable
abbrev pub is_evaluated : Sym → Sym → Bool
is_evaluated (Const a) (Const b) = true
is_evaluated (Const a) (Var k) = false
is_evaluated (Var j) (Const b) = false
is_evaluated (Var j) (Var k) = nat_eq j k

-- what an evaluated comparison says
abbrev pub outcome : Op → Sym → Sym → Bool
outcome op (Const a) (Const b) = compares op a b
outcome op (Const a) (Var k) = holds_in op Same
outcome op (Var j) y = holds_in op Same

-- the comparisons that are left, with the names of their sides
abbrev pub left_over : (Sym → Sym) → List SymbolComparison → List SymbolComparison
left_over name [] = []
left_over name (c ∷ cs) = if is_evaluated (name c.left) (name c.right) then left_over name cs else record { left = name c.left; op = c.op; right = name c.right } ∷ left_over name cs

-- their sides, in order
abbrev pub sides : List SymbolComparison → List Sym
sides [] = []
sides (c ∷ cs) = c.left ∷ c.right ∷ sides cs

-- the comparison is evaluated and false
abbrev pub EvaluatesFalse : (Sym → Sym) → SymbolComparison → Type 0
EvaluatesFalse name c = IsTrue (is_evaluated (name c.left) (name c.right)) × (outcome c.op (name c.left) (name c.right) ≡ false)
