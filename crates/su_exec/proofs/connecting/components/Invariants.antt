use Rattle.std.proofs.Common.{◌≡◌}
use Rattle.std.specs.List.{range_with_len}
use Rattle.std.specs.Prelude.{filter, map, nat_eq}
use Rattle.su_exec.specs.inside.Labels.{label_of, rows_of}
use Rattle.su_exec.proofs.connecting.components.Given as goal

abbrev pub invariant-loop-i : goal.invariant-loop-i
invariant-loop-i l = l.parts ≡ map (rows_of l.labels.items) (filter (λ i. nat_eq (label_of l.labels.items i) i) (range_with_len 0 l.i))
