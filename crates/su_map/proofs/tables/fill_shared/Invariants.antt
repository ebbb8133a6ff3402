use Rattle.std.proofs.Common.{◌≡◌, ℕ, ◌<◌, get_or, Contains, Some, None}
use Rattle.su_tableau.specs.declared.symbols.Sym.TheVariants.{Var}
use Rattle.su_tableau.specs.Parts.{Cell}
use Rattle.su_map.proofs.tables.fill_shared.Given as goal

abbrev pub invariant-loop-c : goal.invariant-loop-c
invariant-loop-c l = record {
  some : (e : ℕ) → e < l.c → (at : ℕ) → get_or l.columns e None ≡ Some at → (k : ℕ) × Cell l.row e (Var k) × Cell l.other at (Var k);
  none : (e : ℕ) → e < l.c → get_or l.columns e None ≡ None → (k : ℕ) → Cell l.row e (Var k) → Contains l.other (Var k) → Contains l.head (Var k);
}
