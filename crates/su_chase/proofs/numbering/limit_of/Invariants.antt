use Rattle.std.proofs.Common.{ℕ, ◌<◌, ◌≤◌, ◌^◌, List, get_or}
use Rattle.su_tableau.specs.declared.symbols.Sym.{Sym}
use Rattle.su_tableau.specs.Tableaux.{AreBelow}
use Rattle.su_chase.proofs.numbering.limit_of.Given as goal

abbrev pub invariant-loop-row : goal.invariant-loop-row
invariant-loop-row l = record {
  small : l.top ≤ 2 ^ 32;
  rows : (i : ℕ) (d : List Sym) → i < l.row-index → AreBelow l.top (get_or l.rows i d);
}
