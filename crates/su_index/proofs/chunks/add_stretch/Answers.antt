-- The place is past as many entries as were taken, and what was added is the front of the stretch; so the entry at the place is the next of the stretch.
use Rattle.std.proofs.Common.{◌≡◌, ◌+◌, ◌∙◌, ◌++◌, ◌∷◌, List, [], get_or, ap, arith}
use Rattle.su_index.specs.declared.entry.Entry.{Entry}
use Rattle.su_index.specs.Entries.{entries_of}
use Rattle.su_index.specs.inside.Chunks.{rank_in}
use Rattle.su_index.proofs.Entries.{stretch_more}
use Rattle.su_index.proofs.chunks.add_stretch.Goals as goal

pub overflow_add-place : goal.overflow_add-place
overflow_add-place c = omega (arith, c.settled-place.ensures.rank, c.loop.invariant.place, c.loop-test.true, c.requires.within, c.requires.small)

pub loop-preserved : goal.loop-preserved
loop-preserved c =
    let run : List Entry = entries_of c.args.chunks.now in
    let rank : rank_in c.args.chunks.now c.settled-place.result ≡ c.args.at + c.loop.counter = c.settled-place.ensures.rank ∙ c.loop.invariant.place in
    let is : c.entry.result ≡ get_or run (c.args.at + c.loop.counter) c.entry.result = c.entry.ensures ∙ ap (λ k. get_or run k c.entry.result) rank in
    record {
      place = omega (arith, rank);
      listed = c.in_ok-push.ensures.items ∙ ap (λ xs. xs ++ c.entry.result.position ∷ []) c.loop.invariant.listed ∙ stretch_more c.args.positions.now.items run c.args.at c.args.count c.loop.counter c.entry.result c.loop-test.true c.requires.within is;
    }
