-- Of terms that are alike one covers the other exactly where its kept rows have a mapping, and the room for all terms has room for this one.
use Rattle.std.proofs.Common.{sym, subst}
use Rattle.su_map.specs.Rooms.{IsRoomFor}
use Rattle.su_min.proofs.RoomsForAll.{room_of_one}
use Rattle.su_min.proofs.ReducedTerms.{tells_found}
use Rattle.su_min.proofs.searches.maps.Goals as goal

pub exists-found-requires-clause-room : goal.exists-found-requires-clause-room
exists-found-requires-clause-room g c =
    let one = c.args.one.now in
    subst (λ t. IsRoomFor t c.in_ok-own.own) (sym c.tableau-from.ensures) (room_of_one c.args.terms.now one c.in_ok-own.own c.requires.term c.in_ok-own.ensures.taken)

pub returns-clause-tells : goal.returns-clause-tells
returns-clause-tells g c =
    tells_found c.args.one.now c.args.other.now c.tableau-from.result.now c.tableau-to.result.now c.mask.result c.mask-2.result c.exists-found.result c.exists-found.new.room.list
    c.tableau-from.ensures c.tableau-to.ensures c.mask.ensures.is c.mask-2.ensures.is c.requires.alike c.exists-found.ensures.found c.exists-found.ensures.none.0
