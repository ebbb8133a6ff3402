use Rattle.std.proofs.Common.{◌≡◌, map, take}
use Rattle.std.specs.FinSet.{from_list}
use Rattle.su_schema.proofs.links.attributes_of.Given as goal

abbrev pub invariant-loop-link : goal.invariant-loop-link
invariant-loop-link l = l.attributes ≡ from_list (map (λ k. k.attribute) (take l.link-index l.links))
