use Rattle.std.proofs.Common.{◌≡◌, map, take}
use Rattle.su_index.proofs.sorting.entries_of.Given as goal

abbrev pub invariant-loop-key : goal.invariant-loop-key
invariant-loop-key l = l.run.items ≡ map (λ key. record { lead = key.0; position = key.2 }) (take l.key-index l.keys)
