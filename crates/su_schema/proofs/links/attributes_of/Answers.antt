-- The set so far is that of the attributes of the links so far, and one link more inserts its own attribute.
use Rattle.std.proofs.Common.{◌≡◌, ◌+◌, map, take, sym}
use Rattle.std.specs.FinSet.{from_list}
use Rattle.su_schema.proofs.Numbers.{from_list-more}
use Rattle.su_schema.proofs.links.attributes_of.Goals as goal

pub loop-link-preserved : goal.loop-link-preserved
loop-link-preserved c =
    let more : c.insert-attributes.result ≡ from_list (map (λ k. k.attribute) (take (c.loop-link.link-index + 1) c.args.links.now)) =
    rw (c.insert-attributes.ensures, c.loop-link.invariant) (sym (from_list-more (λ k. k.attribute) c.args.links.now c.loop-link.link-index _ c.loop-link-test.true)) in
    more
