use Rattle.std.proofs.Common.{ℕ, ◌<◌, List, get_or, Contains}
use Rattle.su_tableau.specs.declared.symbols.Sym.{Sym}
use Rattle.su_tableau.specs.Valuations.{nth, values_of}
use Rattle.su_tableau.proofs.valuations.holds.Given as goal

abbrev pub invariant-loop-i : goal.invariant-loop-i
invariant-loop-i l = (n : ℕ) (d : List Sym) → n < l.i → Contains l.universe (values_of (nth l.values) (get_or l.t.rows n d))
