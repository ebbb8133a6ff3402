use Rattle.std.proofs.Common.{◌≡◌, ◌⊎◌, ℕ, true, take}
use Rattle.su_exec.specs.inside.Edges.{has}
use Rattle.su_exec.proofs.closing.add_wanted.Given as goal

abbrev pub invariant-loop-x : goal.invariant-loop-x
invariant-loop-x l = record {
  kept : (k : ℕ) → has l.initial.vars.items k ≡ true → has l.vars.items k ≡ true;
  all : (k : ℕ) → has (take l.x-index l.some) k ≡ true → has l.wanted k ≡ true → has l.vars.items k ≡ true;
  only : (k : ℕ) → has l.vars.items k ≡ true → (has l.initial.vars.items k ≡ true) ⊎ (has l.some k ≡ true);
}
