use Rattle.std.proofs.Common.{◌≡◌, ◌++◌, take}
use Rattle.su_places.specs.Places.{kinds_from}
use Rattle.su_places.proofs.kinds.push_kinds.Given as goal

-- the kinds before are told
abbrev pub invariant-loop-kind : goal.invariant-loop-kind
invariant-loop-kind l = l.out.items ≡ l.fn.out.items ++ kinds_from l.wanted (take l.kind-index l.kinds)
