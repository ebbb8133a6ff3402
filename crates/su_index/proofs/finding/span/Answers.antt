-- The entries before the first place come before the value at position 0 and those from the other on come behind the value, so the ones between are those of the value.
use Rattle.std.proofs.Common.{arith, length}
use Rattle.su_index.specs.Entries.{entries_of, positions}
use Rattle.su_index.specs.inside.Order.{value_at}
use Rattle.su_index.proofs.Chunked.{rank-most}
use Rattle.su_index.proofs.Entries.{positions_length}
use Rattle.su_index.proofs.Spans.{IsSpan-search}
use Rattle.su_index.proofs.finding.span.Goals as goal

pub returns-clause-span : goal.returns-clause-span
returns-clause-span c =
    let chunks = c.args.chunks.now in
    let len = positions_length (entries_of chunks) in
    let first = c.find-first.ensures in
    let past = c.past-past.ensures in
    IsSpan-search (value_at c.args.rows.now c.args.column) c.args.wanted.now (positions (entries_of chunks)) (length c.args.rows.now) _ _ c.requires.positions
    (omega (arith, rank-most chunks c.find-first.result first.place.gap, len)) (omega (arith, rank-most chunks c.past-past.result past.place.gap, len))
    first.below (λ k h l. first.above k h (omega (arith, l, len))) past.below (λ k h l. past.above k h (omega (arith, l, len)))
