-- The symbols that items stand for: some constants, each once, and then the variables.
-- item: a number; that of a constant is its place, and the variables follow by their numbers
use Rattle.std.specs.Prelude.{ℕ, ◌-◌, cond, List, [], length, get_or, nat_lt}
use Rattle.su_base.specs.declared.values.Value.{Value}
use Rattle.su_base.specs.declared.values.Value.TheVariants.{Text}
use Rattle.su_tableau.specs.declared.symbols.Sym.{Sym}
use Rattle.su_tableau.specs.declared.symbols.Sym.TheVariants.{Const, Var}

-- the symbol of an item
abbrev pub symbol_at : List Value → ℕ → Sym
symbol_at vs i = cond (nat_lt i (length vs)) (Const (get_or vs i (Text []))) (Var (i - length vs))
