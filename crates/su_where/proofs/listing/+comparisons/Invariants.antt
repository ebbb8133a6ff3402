use Rattle.std.proofs.Common.{◌≡◌, ◌++◌, map, flat_map, take}
use Rattle.su_where.specs.Truth.{comparisons_of}
use Rattle.su_where.proofs.listing.+comparisons.Given as goal

abbrev pub invariant-push_parts-loop-part : goal.invariant-push_parts-loop-part
invariant-push_parts-loop-part g l = map (λ c. c.now) l.out ≡ map (λ c. c.now) l.fn.out ++ flat_map comparisons_of (take l.part-index l.parts)
