use Rattle.std.proofs.Common.{◌≡◌, ◌<◌, ℕ, List, [], length, get_or}
use Rattle.su_tableau.specs.declared.symbols.Sym.{Sym}
use Rattle.su_check.specs.inside.Boards.{AreMarks, AreNumbers}
use Rattle.su_check.proofs.boards.all_numbers.Given as goal

abbrev pub invariant-loop-row : goal.invariant-loop-row
invariant-loop-row l = record {
  one_each : length l.all ≡ l.row-index;
  rows : (head : List Sym) → AreMarks l.variables head l.marks → (i : ℕ) → i < l.row-index → AreNumbers head l.variables (get_or l.rows i []) (get_or l.all i []);
}
