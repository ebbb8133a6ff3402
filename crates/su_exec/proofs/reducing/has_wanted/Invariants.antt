use Rattle.std.proofs.Common.{◌≡◌, ℕ, true, take}
use Rattle.su_exec.specs.inside.Edges.{has}
use Rattle.su_exec.proofs.reducing.has_wanted.Given as goal

abbrev pub invariant-loop-x : goal.invariant-loop-x
invariant-loop-x l = (k : ℕ) → has (take l.x-index l.vars) k ≡ true → has l.wanted k ≡ true → has l.others k ≡ true
