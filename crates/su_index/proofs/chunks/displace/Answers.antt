-- The entry goes into its chunk and the last one of it comes out; put in before the next chunk, that one makes the entries those with the new one at its rank.
use Rattle.std.proofs.Common.{◌∙◌, add-one, ap, set, arith}
use Rattle.std.specs.List.{insert}
use Rattle.su_index.specs.declared.chunk.Chunk.{Chunk}
use Rattle.su_index.specs.Entries.{entries_of}
use Rattle.su_index.specs.inside.Chunks.{before_chunk}
use Rattle.su_index.proofs.Chunked.{displaced-entries}
use Rattle.su_index.proofs.chunks.displace.Goals as goal

pub returns-clause-entries : goal.returns-clause-entries
returns-clause-entries c =
    let here = c.index_mut.ensures.value in
    let inside = rw (← here) at (c.requires.place.most c.index_mut.result.now) in
    let x : Chunk = record { entries = c.push_through.new.held } in
    let changed = set c.args.chunks.now.items c.args.place.chunk x in
    ap (λ k. insert (entries_of changed) (before_chunk changed k) c.push_through.result) (add-one c.args.place.chunk)
    ∙ displaced-entries c.args.chunks.now.items c.args.place.chunk c.args.place.at x c.index_mut.result.now c.args.entry c.push_through.result c.requires.place.within (rw (← here) (omega (arith, inside, c.index_mut.result.now.entries.ok.0))) (c.push_through.ensures.items ∙ ap (λ y. insert y.entries.items c.args.place.at c.args.entry) here)
