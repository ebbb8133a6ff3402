use Rattle.std.proofs.Common.{◌≡◌, ℕ, ◌<◌, ◌≤◌, length}
use Rattle.su_tableau.specs.declared.symbols.Sym.{Sym}
use Rattle.su_classes.specs.Tables.{IsSound}
use Rattle.su_classes.specs.inside.Tables.{IsShortened}
use Rattle.su_classes.proofs.tables.root.Given as goal

abbrev pub invariant-path : goal.invariant-path
invariant-path l = record {
  shortened : IsShortened l.fn.table l.table;
  at_in : l.at < length l.table;
  at_least : l.at ≤ l.item;
  of : (label : ℕ → Sym) → IsSound l.table label → label l.item ≡ label l.at;
}

abbrev pub decreases-path : goal.decreases-path
decreases-path l = l.at
