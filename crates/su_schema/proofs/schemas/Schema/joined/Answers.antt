-- The ordered links have attributes below the schema's count, which is at most 128, so a set has room for each of them.
use Rattle.std.proofs.Common.{◌<◌, ◌≤◌, All, length, get_or, arith}
use lib.ListN.{length-map}
use Rattle.su_schema.specs.Definitions.{ascending}
use Rattle.su_schema.proofs.LinkOrder.{IsBelow, ascending-IsBelow}
use Rattle.su_schema.proofs.schemas.Schema.joined.Goals as goal

pub attributes_of-requires : goal.attributes_of-requires
attributes_of-requires c =
    let few : length c.self.inside.attributes.entries ≤ 128 = rw length-map at c.self.invariant.valid.few_attributes in
    let low : c.len.result ≤ 128 = rw c.len.ensures.len few in
    let all : All (λ l. l.attribute < 128) (ascending c.len.result c.as_slice.result.now) =
    λ k d h. let b : IsBelow c.as_slice.result.now c.len.result (get_or (ascending c.len.result c.as_slice.result.now) k d) = ascending-IsBelow c.as_slice.result.now c.len.result k d h in omega arith in
    rw (c.as_slice-2.ensures, c.in_ok-links.ensures) all
