use Rattle.std.proofs.Common.{◌≡◌, ℕ, ◌<◌, get_or}
use Rattle.su_tableau.specs.Valuations.{nth, values_of}
use Rattle.su_tableau.proofs.valuations.is_sent.Given as goal

abbrev pub invariant-loop-wanted : goal.invariant-loop-wanted
invariant-loop-wanted l = (i : ℕ) → i < l.wanted-index → get_or l.universe i (values_of (nth l.values) l.row) ≡ values_of (nth l.values) l.row → ⊥
