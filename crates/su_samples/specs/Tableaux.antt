-- Tableaux from numbers.
-- symbol of a number: 99 stands for the text Jones, any other number for its variable
use Rattle.std.specs.Prelude.{ℕ, ◌==◌, if◌then◌else◌, map, codes}
use Rattle.su_base.specs.declared.values.Value.TheVariants.{Text}
use Rattle.su_tableau.specs.declared.symbols.Sym.{Sym}
use Rattle.su_tableau.specs.declared.symbols.Sym.TheVariants.{Const, Var}
use Rattle.su_tableau.specs.Tableaux.{Tab, tab_of}
use Rattle.su_samples.specs.declared.tableaux.Parts.{Parts}

-- the text Jones for 99, else the variable of the number
abbrev pub symbol_of : ℕ → Sym
symbol_of n = if n == 99 then Const (Text (codes "Jones")) else Var n

-- the tableau with these symbols in its rows and its head
abbrev pub tab_of_parts : Parts → Tab
tab_of_parts p = tab_of p.width (map (λ row. map symbol_of row.now) p.rows.now) (map symbol_of p.head.now) p.outputs p.operators.now
