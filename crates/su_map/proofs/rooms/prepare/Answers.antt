-- A room for so many rows has room for fewer, in its net as in its notes, so the tableau's own number of rows fits.
use Rattle.std.proofs.Common.{◌≤◌, length, ap, arith}
use Rattle.su_map.specs.Rooms.{Space, IsPreparedFor}
use Rattle.su_map.proofs.FoundMappings.{own_net}
use Rattle.su_map.proofs.ShrunkDomains.{less_room}
use Rattle.su_map.proofs.Roomy.{less_roomy}
use Rattle.su_map.proofs.rooms.prepare.Goals as goal

pub fill-requires-clause-room : goal.fill-requires-clause-room
fill-requires-clause-room c =
    let v = ap (λ (s : Space). s.rows) c.room.view_is in
    let r = c.requires.room.rows in
    let rows_in : length c.args.from.now.rows ≤ c.room.inside.rows = omega arith in
    let enough = c.room.invariant.enough (length c.args.from.now.rows) rows_in c.keeps_its_rules.ensures.small.rows in
    less_room (length c.args.from.now.rows) (length c.room.inside.list.items) c.room.inside.net enough c.room.invariant.net_room

pub fill-requires-clause-notes : goal.fill-requires-clause-notes
fill-requires-clause-notes c =
    let v = ap (λ (s : Space). s.rows) c.room.view_is in
    let r = c.requires.room.rows in
    let rows_in : length c.args.from.now.rows ≤ c.room.inside.rows = omega arith in
    let enough = c.room.invariant.enough (length c.args.from.now.rows) rows_in c.keeps_its_rules.ensures.small.rows in
    less_roomy (length c.args.from.now.rows) (length c.room.inside.list.items) c.room.inside.notes enough c.room.invariant.notes_room

pub invariant_of-room : goal.invariant_of-room
invariant_of-room c =
    let inv = c.room.invariant in
    record {
      small = inv.small;
      enough = inv.enough;
      net_room = c.fill.ensures.room (length c.room.inside.list.items) inv.net_room;
      notes_room = c.fill.ensures.notes (length c.room.inside.list.items) inv.notes_room;
      domains_room = inv.domains_room;
      levels_room = inv.levels_room;
      choice_room = inv.choice_room;
      count_in = inv.count_in;
    }

pub returns-clause-prepared : goal.returns-clause-prepared
unfolding IsPreparedFor
returns-clause-prepared c = λ yes. own_net c.args.from.now c.args.to.now c.args.from_mask c.args.to_mask _ (c.fill.ensures.net yes)
