use Rattle.std.proofs.Common.{ℕ, ◌<◌, ◌≤◌, ◌^◌, [], get_or}
use Rattle.su_tableau.specs.Tableaux.{AreBelow, AreVarsBelow}
use Rattle.su_tableau.proofs.tableaux.Tableau.symbols.Given as goal

abbrev pub invariant-loop-i : goal.invariant-loop-i
invariant-loop-i l = record {
  small : l.top ≤ 2 ^ 32;
  head : AreBelow l.top l.self.head;
  rows : (n : ℕ) → n < l.i → AreBelow l.top (get_or l.self.rows n []);
  least : (m : ℕ) → AreVarsBelow m l.self → l.top ≤ m;
}
