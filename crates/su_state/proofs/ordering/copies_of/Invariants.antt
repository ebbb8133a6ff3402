use Rattle.std.proofs.Common.{◌≡◌, map, take}
use Rattle.su_state.proofs.ordering.copies_of.Given as goal

abbrev pub invariant-loop-key : goal.invariant-loop-key
invariant-loop-key l = l.rows ≡ map (λ key. key.1.now) (take l.key-index l.keys)
