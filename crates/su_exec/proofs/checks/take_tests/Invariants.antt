use Rattle.std.proofs.Common.{◌≡◌, ◌&&◌, ◌||◌, ℕ, true, List, [], length, take}
use Rattle.std.specs.Prelude.{All, map}
use Rattle.su_base.specs.declared.values.Value.{Value}
use Rattle.su_exec.specs.inside.Edges.{has}
use Rattle.su_exec.specs.inside.Checks.{all_hold, all_pass, check_vars, IsTestIn}
use Rattle.su_exec.proofs.checks.take_tests.Given as goal

abbrev pub invariant-loop-check : goal.invariant-loop-check
invariant-loop-check l = record {
  same : (values : List Value) (v : ℕ → ℕ) → all_hold values (take l.check-index l.fn.checks.items) v ≡ (all_pass values l.tests.items (map v l.left) (map v l.right) && all_hold values l.later.items v);
  within : All (IsTestIn (length l.left) (length l.right)) l.tests.items;
  vars : (k : ℕ) → has (check_vars l.later.items) k ≡ true → has (check_vars (take l.check-index l.fn.checks.items)) k ≡ true;
  all : ((k : ℕ) → has (check_vars (take l.check-index l.fn.checks.items)) k ≡ true → (has l.left k || has l.right k) ≡ true) → l.later.items ≡ [];
}
