-- The place to put in is no later than the one taken from, so its rank stays as entries are taken out, and the chunk that lost one has the room.
use Rattle.std.proofs.Common.{◌≡◌, ◌≤◌, ◌+◌, ◌∙◌, ap, arith}
use Rattle.std.specs.List.{insert}
use Rattle.su_index.specs.Entries.{entries_of}
use Rattle.su_index.specs.inside.Chunks.{before_chunk}
use Rattle.su_index.proofs.Chunked.{chunk-order}
use Rattle.su_index.proofs.chunks.shift.Goals as goal

pub put_at-requires-clause-room : goal.put_at-requires-clause-room
put_at-requires-clause-room c = record {
  at = c.args.from.chunk;
  behind = chunk-order c.args.chunks.now.items c.args.from c.args.to (record { gap = record { within = c.requires.within; most = λ d. omega (arith, c.requires.there d) }; inner = λ d h. c.requires.there d }) c.requires.place c.requires.order;
  within = omega (arith, c.requires.within, c.dig.ensures.count);
  room = c.dig.ensures.room;
}

pub returns-clause-entries : goal.returns-clause-entries
returns-clause-entries c =
    let before : c.args.to.chunk ≤ c.args.from.chunk = chunk-order c.args.chunks.now.items c.args.from c.args.to (record { gap = record { within = c.requires.within; most = λ d. omega (arith, c.requires.there d) }; inner = λ d h. c.requires.there d }) c.requires.place c.requires.order in
    let rank : before_chunk c.dig.new.chunks.items c.args.to.chunk ≡ before_chunk c.args.chunks.now.items c.args.to.chunk = c.dig.ensures.before c.args.to.chunk before in
    c.drop_empty.ensures.entries ∙ c.put_at.ensures.entries
    ∙ ap (λ k. insert (entries_of c.dig.new.chunks.items) (k + c.args.to.at) c.args.entry) rank
    ∙ ap (λ s. insert s (before_chunk c.args.chunks.now.items c.args.to.chunk + c.args.to.at) c.args.entry) c.dig.ensures.entries
