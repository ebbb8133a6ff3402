use Rattle.std.proofs.Common.{◌≡◌, ◌<◌, ◌≤◌, ℕ, get_or}
use Rattle.su_tableau.specs.declared.symbols.Sym.{Sym}
use Rattle.su_min.specs.inside.Constants.{with_one_variable}
use Rattle.su_min.proofs.alike.ends_are_alike.Given as goal

abbrev pub invariant-loop-i : goal.invariant-loop-i
invariant-loop-i l = (k : ℕ) (d : Sym) → l.start ≤ k → k < l.i → with_one_variable (get_or l.xs k d) ≡ with_one_variable (get_or l.ys k d)
