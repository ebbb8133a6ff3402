-- Classes of symbols, and their names.
-- partition: a label for each symbol; symbols with one label are together
-- class: symbols that every closed partition puts together, for whatever is asked of a closed one
-- name: a constant of the class or, where it has none, its least variable
use Rattle.std.specs.Prelude.{◌≡◌, ℕ, ◌≤◌}
use Rattle.su_tableau.specs.declared.symbols.Sym.{Sym}
use Rattle.su_tableau.specs.declared.symbols.Sym.TheVariants.{Const, Var}

-- every closed partition puts x and y together
abbrev pub InClass : ((Sym → Sym) → Type 0) → Sym → Sym → Type 0
InClass IsClosed x y = (label : Sym → Sym) → IsClosed label → label x ≡ label y

-- the symbol is a variable of no less a number
abbrev pub IsFrom : ℕ → Sym → Type 0
IsFrom k (Const c) = ⊥
IsFrom k (Var j) = k ≤ j

-- the name of each symbol is a constant of its class or, where the class has none, its least variable
pub record IsNaming (IsClosed : (Sym → Sym) → Type 0) (name : Sym → Sym) : Type 0 where
  pub member : (x : Sym) → InClass IsClosed x (name x)
  pub one_name : (x y : Sym) → InClass IsClosed x y → name x ≡ name y
  pub least : (x : Sym) (k : ℕ) → name x ≡ Var k → (y : Sym) → InClass IsClosed x y → IsFrom k y
