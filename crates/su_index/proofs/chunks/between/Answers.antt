-- The count and the entries before the first chunk make up those before the chunk that is counted next and the ones before the last place; so it is the distance of the two places.
use Rattle.std.proofs.Common.{◌≡◌, ◌≤◌, ◌+◌, ap, arith}
use Rattle.su_index.specs.inside.Chunks.{before_chunk}
use Rattle.su_index.proofs.Chunked.{before-next, before-most, chunk-order}
use Rattle.su_index.proofs.chunks.between.Goals as goal

pub overflow_add-count : goal.overflow_add-count
overflow_add-count c =
    let chunks = c.args.chunks.now in
    let past = c.args.past.chunk in
    let held = c.index-chunks-k.result in
    let next = before-next chunks c.loop-k.k held (omega (arith, c.loop-k-test.true, c.requires.past.gap.within)) in
    let last = before-next chunks past held c.requires.past.gap.within in
    omega (arith, c.len-count.ensures, next, before-most chunks (c.loop-k.k + 1), last, before-most chunks (past + 1), c.requires.past.gap.most held, c.loop-k.invariant, c.requires.small)

pub overflow_sub-result : goal.overflow_sub-result
overflow_sub-result c =
    let order : c.args.first.chunk ≤ c.args.past.chunk = chunk-order c.args.chunks.now c.args.past c.args.first c.requires.past c.requires.first c.requires.order in
    let end : c.loop-k.k ≡ c.args.past.chunk = omega (arith, order, c.loop-k-test.false, c.loop-k.auto.k) in
    omega (arith, c.loop-k.invariant, ap (before_chunk c.args.chunks.now) end, c.requires.order)

pub returns : goal.returns
returns c =
    let order : c.args.first.chunk ≤ c.args.past.chunk = chunk-order c.args.chunks.now c.args.past c.args.first c.requires.past c.requires.first c.requires.order in
    let end : c.loop-k.k ≡ c.args.past.chunk = omega (arith, order, c.loop-k-test.false, c.loop-k.auto.k) in
    omega (arith, c.loop-k.invariant, ap (before_chunk c.args.chunks.now) end, c.requires.order)
