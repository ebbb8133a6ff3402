-- Equal symbols have equal parts, and a constant is no variable.
use Rattle.std.proofs.Common.{◌≡◌, ◌≢◌, ℕ}
use Rattle.su_base.specs.declared.values.Value.{Value}
use Rattle.su_tableau.specs.declared.symbols.Sym.TheVariants.{Const, Var}

pub same_const : (a b : Value) → Const a ≡ Const b → a ≡ b
same_const a b e = cc

pub same_var : (j k : ℕ) → Var j ≡ Var k → j ≡ k
same_var j k e = cc

pub const_var : (v : Value) (k : ℕ) → Const v ≢ Var k
const_var v k e = cc
