-- A binary search over the last entries of the chunks: those before `low` come before the value, and the last of the chunk `high` does not, unless it is the last chunk.
use Rattle.std.proofs.Common.{◌<◌, ◌+◌, ◌-◌, ◌/◌, true, false, length, arith}
use Rattle.su_index.specs.Entries.{entries_of, positions}
use Rattle.su_index.specs.inside.Chunks.{before_chunk}
use Rattle.su_index.specs.inside.Order.{value_at}
use Rattle.su_index.proofs.Entries.{positions_length, entry_within, entry_before}
use Rattle.su_index.proofs.Search.{comes_before-below, comes_before-above}
use Rattle.su_index.proofs.finding.chunk_for.Goals as goal

pub is_before-requires-clause-within : goal.is_before-requires-clause-within
is_before-requires-clause-within c =
    let chunks = c.args.chunks.now in
    let last = before_chunk chunks (c.loop-low.low + (c.loop-low.high - c.loop-low.low) / 2 + 1) - 1 in
    entry_within (length c.args.rows.now) (entries_of chunks) last c.last_of-found.result c.requires.positions (omega (arith, c.last_of-found.ensures.there, c.last_of-found.ensures.some)) c.last_of-found.ensures.last

pub loop-low-preserved-then-is_before : goal.loop-low-preserved-then-is_before
loop-low-preserved-then-is_before c =
    let at = value_at c.args.rows.now c.args.column in
    let run = entries_of c.args.chunks.now in
    let last = before_chunk c.args.chunks.now (c.loop-low.low + (c.loop-low.high - c.loop-low.low) / 2 + 1) - 1 in
    let within : last < length run = omega (arith, c.last_of-found.ensures.there, c.last_of-found.ensures.some) in
    record {
      bound = omega arith;
      top = c.loop-low.invariant.top;
      below = λ k h. comes_before-below at c.args.wanted.now c.args.position (positions run) k last c.requires.ordered (omega (arith, h)) (omega (arith, within, positions_length run))
          (entry_before at c.args.wanted.now c.args.position run last c.last_of-found.result c.is_before.result true within c.last_of-found.ensures.last c.is_before.ensures c.if-is_before.true);
      above = c.loop-low.invariant.above;
    }

pub loop-low-preserved : goal.loop-low-preserved
loop-low-preserved c =
    let at = value_at c.args.rows.now c.args.column in
    let run = entries_of c.args.chunks.now in
    let last = before_chunk c.args.chunks.now (c.loop-low.low + (c.loop-low.high - c.loop-low.low) / 2 + 1) - 1 in
    let within : last < length run = omega (arith, c.last_of-found.ensures.there, c.last_of-found.ensures.some) in
    record {
      bound = omega arith;
      top = omega (arith, c.loop-low.invariant.top);
      below = c.loop-low.invariant.below;
      above = λ k more h l. comes_before-above at c.args.wanted.now c.args.position (positions run) last k c.requires.ordered (omega (arith, h)) (omega (arith, l, positions_length run))
          (entry_before at c.args.wanted.now c.args.position run last c.last_of-found.result c.is_before.result false within c.last_of-found.ensures.last c.is_before.ensures c.if-is_before.false);
    }
