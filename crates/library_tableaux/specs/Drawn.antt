-- A tableau that compares nothing.
-- drawn: rows of symbols, and a head of which each symbol is an output
use Rattle.std.specs.Prelude.{ℕ, List, [], length}
use Rattle.su_tableau.specs.declared.symbols.Sym.{Sym}
use Rattle.su_tableau.specs.Tableaux.{Tab, tab_of}

-- the tableau with these rows and this head
abbrev pub drawn : ℕ → List (List Sym) → List Sym → Tab
drawn width rows head = tab_of width rows head (length head) []
