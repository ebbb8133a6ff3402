-- How symbols are numbered as items: some constants, each once, and then the variables below a limit.
-- item: the number of a symbol: its constant's place among the constants, or behind these the variable's number; name of a class: its least item
-- No public contract cites this module.
use Rattle.std.specs.Prelude.{◌≡◌, ℕ, suc, ◌+◌, Bool, true, false, cond, List, [], ◌∷◌, length, nat_lt}
use Rattle.std.specs.Ordering.{is_eq}
use Rattle.su_base.specs.declared.values.Value.{Value}
use Rattle.su_base.specs.Value.{compare_values}
use Rattle.su_tableau.specs.declared.symbols.Sym.{Sym}
use Rattle.su_tableau.specs.declared.symbols.Sym.TheVariants.{Const, Var}
use Rattle.su_classes.specs.Symbols.{symbol_at}
use Rattle.su_classes.specs.Tables.{rep}

-- the values are equal
abbrev pub same_value : Value → Value → Bool
same_value x z = is_eq (compare_values x z)

-- the value is one of these
abbrev pub has_constant : List Value → Value → Bool
has_constant [] c = false
has_constant (v ∷ vs) c = cond (same_value v c) true (has_constant vs c)

-- the place of a constant, or the number of constants
abbrev pub constant_place : List Value → Value → ℕ
constant_place [] c = 0
constant_place (v ∷ vs) c = cond (same_value v c) 0 (suc (constant_place vs c))

-- no value stands twice
abbrev pub AreDistinct : List Value → Type 0
AreDistinct [] = Unit {0}
AreDistinct (v ∷ vs) = (has_constant vs v ≡ false) × AreDistinct vs

-- whether the symbol has a number, where there are variables below the limit
abbrev pub is_known : List Value → ℕ → Sym → Bool
is_known vs limit (Const c) = has_constant vs c
is_known vs limit (Var k) = nat_lt k limit

-- the number of a symbol: constants come first
abbrev pub symbol_number : List Value → Sym → ℕ
symbol_number vs (Const c) = constant_place vs c
symbol_number vs (Var k) = length vs + k

-- the name of a symbol by a table; a symbol without a number is its own name
abbrev pub name_in : List Value → ℕ → List ℕ → Sym → Sym
name_in vs limit table x = cond (is_known vs limit x) (symbol_at vs (rep table (symbol_number vs x))) x
