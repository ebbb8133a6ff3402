-- The one covers the other, so a mapping exists and the search finds the first one; the room for all the terms has room for each of them.
use Rattle.std.proofs.Common.{◌∙◌, sym, ap, subst}
use Rattle.su_map.specs.Lists.{IsMapping, IsFirst}
use Rattle.su_map.specs.Rooms.{IsRoomFor}
use Rattle.su_min.proofs.RoomsForAll.{room_of_one, room_all_same}
use Rattle.su_min.proofs.ReducedTerms.{move, first_found}
use Rattle.su_min.proofs.searches.first_mapping.Goals as goal

pub first-requires-clause-room : goal.first-requires-clause-room
first-requires-clause-room g c =
    let one = c.args.one.now in
    subst (λ t. IsRoomFor t c.in_ok-own.own) (sym c.tableau-from.ensures) (room_of_one c.args.terms.now one c.in_ok-own.own c.requires.term c.in_ok-own.ensures.taken)

pub certify-requires : goal.certify-requires
certify-requires g c =
    let one = c.args.one.now in let other = c.args.other.now in
    let f =
    first_found one other c.tableau-from.result.now c.tableau-to.result.now c.mask.result c.mask-2.result c.first.result c.first.new.room.list
    c.tableau-from.ensures c.tableau-to.ensures c.mask.ensures.is c.mask-2.ensures.is c.requires.covers c.first.ensures.found c.first.ensures.none.0 in
    move (λ s m t k. IsMapping s m t k c.first.new.room.list) one.tableau c.tableau-from.result.now one.mask c.mask-3.result other.tableau c.tableau-to.result.now other.mask c.mask-4.result
    (sym c.tableau-from.ensures) (sym c.mask-3.ensures.is) (sym c.tableau-to.ensures) (sym c.mask-4.ensures.is) f.maps

pub returns-clause-first : goal.returns-clause-first
returns-clause-first g c =
    let one = c.args.one.now in let other = c.args.other.now in
    let f =
    first_found one other c.tableau-from.result.now c.tableau-to.result.now c.mask.result c.mask-2.result c.first.result c.first.new.room.list
    c.tableau-from.ensures c.tableau-to.ensures c.mask.ensures.is c.mask-2.ensures.is c.requires.covers c.first.ensures.found c.first.ensures.none.0 in
    let e = c.in_ok-mapping.ensures.is in
    let from = ap (λ m. m.from) e ∙ c.tableau-from.ensures in
    let from_mask = ap (λ m. m.from_mask) e ∙ c.mask-3.ensures.is in
    let to = ap (λ m. m.to) e ∙ c.tableau-to.ensures in
    let to_mask = ap (λ m. m.to_mask) e ∙ c.mask-4.ensures.is in (
      λ i. record { from = from i; from_mask = from_mask i; to = to i; to_mask = to_mask i; list = c.in_ok-mapping.mapping.list },
      subst (IsFirst one.tableau one.mask other.tableau other.mask) (sym (ap (λ m. m.list) e)) f,
    )

pub returns-clause-room : goal.returns-clause-room
returns-clause-room g c = room_all_same c.args.terms.now c.in_ok-own.own c.first.new.room c.in_ok-own.ensures.taken c.first.ensures.sizes
