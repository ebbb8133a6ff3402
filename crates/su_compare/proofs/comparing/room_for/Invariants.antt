use Rattle.std.proofs.Common.{ℕ, ◌<◌, ◌≤◌, length}
use Rattle.su_tableau.specs.Tableaux.{AreVarsBelow}
use Rattle.su_compare.specs.Settled.{tab_at}
use Rattle.su_compare.proofs.comparing.room_for.Given as goal

abbrev pub invariant-loop-term : goal.invariant-loop-term
invariant-loop-term l = (i : ℕ) → i < l.term-index → (length (tab_at l.terms i).rows ≤ l.rows) × AreVarsBelow l.symbols (tab_at l.terms i)
