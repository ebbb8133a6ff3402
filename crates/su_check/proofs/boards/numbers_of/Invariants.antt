use Rattle.std.proofs.Common.{◌≡◌, ◌<◌, ℕ, List, None, length, get_or}
use Rattle.su_tableau.specs.declared.symbols.Sym.{Sym}
use Rattle.su_check.specs.inside.Cells.{cell_at}
use Rattle.su_check.specs.inside.Boards.{AreMarks, IsNumber}
use Rattle.su_check.proofs.boards.numbers_of.Given as goal

abbrev pub invariant-loop-x : goal.invariant-loop-x
invariant-loop-x l = record {
  one_each : length l.numbers ≡ l.x-index;
  cells : (head : List Sym) → AreMarks l.variables head l.marks → (c : ℕ) → c < l.x-index → IsNumber head l.variables (cell_at l.row c) (get_or l.numbers c None);
}
