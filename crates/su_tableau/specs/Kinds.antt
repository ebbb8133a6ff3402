-- Kinds of values: universal relations, and tableaux that are well typed.
-- universe: a universal relation; well typed: constants and variables have their columns' kinds
use Rattle.std.specs.Prelude.{◌≡◌, ℕ, List, map, length, All}
use Rattle.su_base.specs.declared.values.Kind.{Kind}
use Rattle.su_base.specs.declared.values.Value.{Value}
use Rattle.su_base.specs.Value.{kind_of}
use Rattle.su_tableau.specs.declared.symbols.Sym.{Sym}
use Rattle.su_tableau.specs.declared.symbols.Sym.TheVariants.{Const, Var}
use Rattle.su_tableau.specs.Tableaux.{Tab}

-- one kind per column
abbrev pub Kinds : Type 0
Kinds = List Kind

-- a universal relation: each row has one value of the right kind per column
abbrev pub IsUniverse : Kinds → List (List Value) → Type 0
IsUniverse kinds universe = All (λ row. map kind_of row ≡ kinds) universe

-- the kind of a symbol, where each variable has one
abbrev pub sym_kind : (ℕ → Kind) → Sym → Kind
sym_kind var_kind (Const c) = kind_of c
sym_kind var_kind (Var k) = var_kind k

-- the width is the number of kinds, each constant has its column's kind, and each variable stands in columns of its one kind
pub record IsTyped (kinds : Kinds) (t : Tab) : Type 0 where
  pub width : t.width ≡ length kinds
  pub var_kind : ℕ → Kind
  pub fits : All (λ row. map (sym_kind var_kind) row ≡ kinds) t.rows
