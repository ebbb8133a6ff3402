-- The place found for the position's own value is that of its entry, since all entries differ in position; removing it leaves the others in order.
use Rattle.std.proofs.Common.{arith}
use Rattle.su_index.specs.Entries.{entries_of, positions}
use Rattle.su_index.specs.inside.Chunks.{rank_in, IsPlace}
use Rattle.su_index.specs.inside.Order.{value_at}
use Rattle.std.proofs.lemmas.List.Edits.{length-remove}
use Rattle.su_index.proofs.Changed.{place_found, ordered-remove, count_by-remove}
use Rattle.su_index.proofs.Chunked.{rank-most, place-there}
use Rattle.su_index.proofs.Entries.{positions_length, positions-remove, leads-remove}
use Rattle.su_index.proofs.edits.take_out.Goals as goal

pub take_at-requires-clause-there : goal.take_at-requires-clause-there
take_at-requires-clause-there c =
    let p = c.find-place.ensures in
    let same = c.as_slice.ensures.value in
    let chunks = c.args.chunks.now.items in
    let run = entries_of chunks in
    let rank = rank_in chunks c.find-place.result in
    let len = positions_length run in
    let place : IsPlace chunks c.find-place.result = rw same at p.place in
    let f = place_found (value_at c.args.rows.now c.args.column) (positions run) rank c.args.position c.requires.ordered (omega (arith, rank-most chunks c.find-place.result place.gap, len)) c.requires.there (λ k h. rw (c.value-wanted.ensures, same) at (p.below k (rw same h))) (λ k h l. rw (c.value-wanted.ensures, same) at (p.above k (rw same h) (rw same (omega (arith, l, len))))) in
    place-there chunks c.find-place.result place (omega (arith, f.0, len))

pub returns : goal.returns
returns c =
    let p = c.find-place.ensures in
    let same = c.as_slice.ensures.value in
    let at = value_at c.args.rows.now c.args.column in
    let chunks = c.args.chunks.now.items in
    let run = entries_of chunks in
    let rank = rank_in chunks c.find-place.result in
    let len = positions_length run in
    let place : IsPlace chunks c.find-place.result = rw same at p.place in
    let f = place_found at (positions run) rank c.args.position c.requires.ordered (omega (arith, rank-most chunks c.find-place.result place.gap, len)) c.requires.there (λ k h. rw (c.value-wanted.ensures, same) at (p.below k (rw same h))) (λ k h l. rw (c.value-wanted.ensures, same) at (p.above k (rw same h) (rw same (omega (arith, l, len))))) in
    let left = positions-remove run rank in
    record {
      some = c.take_at.ensures.some;
      ordered = rw (c.take_at.ensures.entries, left) (ordered-remove at (positions run) rank f.0 c.requires.ordered);
      count = λ test. rw (c.take_at.ensures.entries, left) (count_by-remove test (positions run) rank c.args.position f.0 f.1);
      len = rw c.take_at.ensures.entries (length-remove run rank (omega (arith, f.0, len)));
      leads = rw c.take_at.ensures.entries (leads-remove at run rank c.requires.leads);
    }
