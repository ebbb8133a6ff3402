use Rattle.std.proofs.Common.{◌≡◌}
use Rattle.std.specs.List.{range_with_len}
use Rattle.std.specs.Prelude.{filter, nat_eq}
use Rattle.su_exec.specs.inside.Labels.{label_of}
use Rattle.su_exec.proofs.connecting.part_of.Given as goal

abbrev pub invariant-loop-i : goal.invariant-loop-i
invariant-loop-i l = l.part ≡ filter (λ i. nat_eq (label_of l.labels i) l.label) (range_with_len 0 l.i)
