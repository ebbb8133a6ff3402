use Rattle.std.proofs.Common.{◌≡◌, ℕ, ◌<◌, get_or}
use Rattle.su_base.specs.declared.values.Value.{Value}
use Rattle.su_tableau.specs.declared.symbols.Sym.{Sym}
use Rattle.su_tableau.specs.Valuations.{nth, value_of}
use Rattle.su_tableau.proofs.valuations.has_values.Given as goal

abbrev pub invariant-loop-c : goal.invariant-loop-c
invariant-loop-c l = (i : ℕ) (d : Sym) (e : Value) → i < l.c → value_of (nth l.values) (get_or l.row i d) ≡ get_or l.wanted i e
