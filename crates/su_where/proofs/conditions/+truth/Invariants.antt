use Rattle.std.proofs.Common.{◌≡◌, true, false, take}
use Rattle.std.specs.List.{list_all, list_any}
use Rattle.su_where.specs.Truth.{truth_of}
use Rattle.su_where.proofs.conditions.+truth.Given as goal

abbrev pub invariant-all_true-loop-part : goal.invariant-all_true-loop-part
invariant-all_true-loop-part l = list_all (λ c. truth_of c l.values) (take l.part-index l.parts) ≡ true

abbrev pub invariant-any_true-loop-part : goal.invariant-any_true-loop-part
invariant-any_true-loop-part l = list_any (λ c. truth_of c l.values) (take l.part-index l.parts) ≡ false
