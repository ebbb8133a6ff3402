-- Where the net can't be filled there is no mapping, and else the search tells; a mapping exists exactly where the other tableau is contained.
use Rattle.std.proofs.Common.{true≢false, sym, ◌∙◌}
use Rattle.su_map.proofs.FoundMappings.{none_iff}
use Rattle.su_map.proofs.Containment.{tells_within}
use Rattle.su_map.proofs.rooms.first.Goals as goal

pub returns-then-prepare-clause-none : goal.returns-then-prepare-clause-none
returns-then-prepare-clause-none g c = none_iff c.args.from.now c.args.to.now c.args.from_mask c.args.to_mask c.search_in.result c.search_in.new.room.list c.search_in.ensures.found c.search_in.ensures.none

pub returns-then-prepare-clause-contains : goal.returns-then-prepare-clause-contains
returns-then-prepare-clause-contains g c = tells_within c.args.from.now c.args.to.now c.args.from_mask c.args.to_mask c.search_in.result (λ yes'. (c.search_in.new.room.list, c.search_in.ensures.found yes')) c.search_in.ensures.none

pub returns-else-prepare-clause-contains : goal.returns-else-prepare-clause-contains
returns-else-prepare-clause-contains g c = tells_within c.args.from.now c.args.to.now c.args.from_mask c.args.to_mask c.prepare.result (λ yes'. absurd (true≢false (sym yes' ∙ c.if-prepare.false))) c.prepare.ensures.none
