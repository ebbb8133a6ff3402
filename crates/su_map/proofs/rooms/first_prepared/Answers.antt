-- A first list is a mapping, so the search says none only if there is none; it leaves the tables as they were.
use Rattle.su_map.proofs.FoundMappings.{none_iff}
use Rattle.su_map.proofs.Prepared.{stays_prepared}
use Rattle.su_map.proofs.rooms.first_prepared.Goals as goal

pub returns-clause-none : goal.returns-clause-none
returns-clause-none g c = none_iff c.args.from.now c.args.to.now c.args.from_mask c.args.to_mask c.search_in.result c.search_in.new.room.list c.search_in.ensures.found c.search_in.ensures.none

pub returns-clause-prepared : goal.returns-clause-prepared
returns-clause-prepared g c = stays_prepared c.args.room.now c.search_in.new.room c.search_in.ensures.net
