-- The chunk has room, so the insert succeeds, and inserting in one chunk inserts in the whole at the place's rank.
use Rattle.std.proofs.Common.{◌∙◌, ap, not, arith}
use Rattle.std.specs.List.{insert}
use Rattle.su_index.proofs.Chunked.{insert-entries, ok_holds}
use Rattle.su_index.proofs.chunks.fill.Goals as goal

pub returns-clause-entries : goal.returns-clause-entries
returns-clause-entries c =
    let here = c.index_mut.ensures.value in
    let inside = rw (← here) at (c.requires.place.most c.index_mut.result.now) in
    let is = ok_holds _ c.insert.result (c.is_err.ensures.negation ∙ ap not c.if-is_err.false) c.insert.ensures.items in
    insert-entries c.args.chunks.now.items c.args.place.chunk c.args.place.at (record { entries = c.insert.new.self }) c.index_mut.result.now c.args.entry c.requires.place.within (rw (← here) (omega (arith, inside, c.index_mut.result.now.entries.ok.0))) (is ∙ ap (λ x. insert x.entries.items c.args.place.at c.args.entry) here)
