use Rattle.std.proofs.Common.{◌≡◌, ℕ, suc, ◌+◌, ◌*◌, ◌≤◌, Bool, length, get_or}
use Rattle.std.specs.Int.{bit_at}
use Rattle.su_map.specs.declared.search.Order.TheVariants.{Ascending}
use Rattle.su_base.specs.Numbers.{count_below}
use Rattle.su_map.specs.inside.Choices.{IsChoice, choice_of, AreKept, tries, ArePassed}
use Rattle.su_map.proofs.search.+search.Given as goal

abbrev pub decreases-search : goal.decreases-search
decreases-search g l = l.todo

abbrev pub decreases-loop-left : goal.decreases-loop-left
decreases-loop-left g l = l.left

-- past: the targets before it were tried, and none of those left is
abbrev pub invariant-loop-left : goal.invariant-loop-left
invariant-loop-left g l = record {
  kept : AreKept (length l.domains) l.aim.mask l.todo (choice_of l.initial.choice) (choice_of l.choice);
  within : (x : ℕ) → bit_at l.left x ≡ 1 → bit_at (get_or l.domains l.row 0) x ≡ 1;
  passed : (other : ℕ → ℕ) → IsChoice l.aim.net.now (length l.domains) l.aim.mask l.domains other → bit_at l.left (other l.row) ≡ 1;
  past : ℕ;
  few : past ≤ l.aim.net.now.targets;
  later : (x : ℕ) → bit_at l.left x ≡ 1 → past ≤ x;
  cost : (passes : ℕ → ℕ → Bool) → ArePassed l.domains (length l.domains) l.aim.mask passes → l.aim.order ≡ Ascending → l.steps ≤ l.initial.steps + count_below (passes l.row) past * suc (tries passes l.aim.net.now.targets (length l.domains) l.rest);
}
