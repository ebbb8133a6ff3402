use Rattle.std.proofs.Common.{◌≡◌, ℕ, ◌<◌, get_or}
use Rattle.su_tableau.specs.declared.symbols.Sym.{Sym}
use Rattle.su_classes.specs.Items.{item_of}
use Rattle.su_classes.specs.Tables.{IsSound}
use Rattle.su_classes.specs.inside.Tables.{IsShortened}
use Rattle.su_classes.proofs.rushing.agree.Given as goal

abbrev pub invariant-loop-a : goal.invariant-loop-a
invariant-loop-a l = record {
  shortened : IsShortened l.fn.table l.table;
  together : (label : ℕ → Sym) → IsSound l.fn.table label → (k d : ℕ) → k < l.a-index → label (item_of l.row (get_or l.attributes k d)) ≡ label (item_of l.other (get_or l.attributes k d));
}
