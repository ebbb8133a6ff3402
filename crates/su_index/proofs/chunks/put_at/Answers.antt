-- Putting the entry in hand in at the place always gives the entries that are wanted; a full chunk hands its last entry on to the next, and a chunk with room still lies ahead.
use Rattle.std.proofs.Common.{◌≡◌, ◌≤◌, ◌+◌, ◌∙◌, ap, arith}
use Rattle.std.specs.List.{insert}
use Rattle.su_index.specs.Entries.{entries_of}
use Rattle.su_index.specs.inside.Chunks.{before_chunk}
use Rattle.su_index.proofs.Chunked.{room-later}
use Rattle.su_index.proofs.chunks.put_at.Goals as goal

pub loop-chunks-preserved : goal.loop-chunks-preserved
loop-chunks-preserved c =
    let i = c.loop-chunks.invariant in
    let new = c.displace-entry.new.chunks.items in
    let chunk = c.loop-chunks.place.chunk in
    let later : chunk + 1 ≤ i.room.at = room-later c.loop-chunks.chunks.items chunk i.room (rw (c.loop-chunks-test.true, c.as_slice.ensures.value) at c.is_full.ensures.full) in
    let first : before_chunk new (chunk + 1) + 0 ≡ before_chunk new (chunk + 1) = omega arith in
    record {
      place = record { within = omega (arith, later, i.room.within, c.displace-entry.ensures.count); most = λ d. omega arith };
      room = record {
        at = i.room.at;
        behind = later;
        within = omega (arith, i.room.within, c.displace-entry.ensures.count);
        room = λ d. omega (arith, i.room.room d, c.displace-entry.ensures.lens i.room.at d, c.displace-entry.ensures.capacities i.room.at d);
      };
      count = c.displace-entry.ensures.count ∙ i.count;
      entries = ap (λ k. insert (entries_of new) k c.displace-entry.result) first ∙ c.displace-entry.ensures.entries ∙ i.entries;
      lens = λ k d. omega (arith, i.lens k d, c.displace-entry.ensures.lens k d);
    }
