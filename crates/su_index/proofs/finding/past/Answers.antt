-- The entries from `first` on are in order and each has its lead: an entry that isn't before the value shows that none behind it is.
use Rattle.std.proofs.Common.{◌<◌, ◌+◌, true, false, arith, length}
use Rattle.su_index.specs.Entries.{entries_of, positions}
use Rattle.su_index.specs.inside.Chunks.{before_chunk, rank_in}
use Rattle.su_index.specs.inside.Order.{value_at}
use Rattle.su_index.proofs.Chunked.{rank-within, place-end, at-most}
use Rattle.su_index.proofs.Entries.{positions_length, entry_within, entry_lead, entry_before, comes_before-more}
use Rattle.su_index.proofs.Search.{comes_before-above}
use Rattle.su_index.proofs.finding.past.Goals as goal

pub returns-then-first-len-clause-above : goal.returns-then-first-len-clause-above
returns-then-first-len-clause-above c =
    λ k h l. absurd (omega (arith, h, l, place-end c.args.chunks.now c.args.first c.len_of-len.result c.requires.first c.len_of-len.ensures c.if-first-len.true))

pub is_before-requires-clause-within : goal.is_before-requires-clause-within
is_before-requires-clause-within c =
    let chunks = c.args.chunks.now in
    entry_within (length c.args.rows.now) (entries_of chunks) (rank_in chunks c.args.first) c.entry.result c.requires.positions
    (rank-within chunks c.args.first.chunk c.args.first.at c.requires.first.gap.within (λ d. omega (arith, c.requires.first.gap.most d, c.len_of-len.ensures d, c.if-first-len.false))) c.entry.ensures

pub is_before-requires-clause-found : goal.is_before-requires-clause-found
is_before-requires-clause-found c =
    let chunks = c.args.chunks.now in
    entry_lead (value_at c.args.rows.now c.args.column) (entries_of chunks) (rank_in chunks c.args.first) c.entry.result c.requires.leads
    (rank-within chunks c.args.first.chunk c.args.first.at c.requires.first.gap.within (λ d. omega (arith, c.requires.first.gap.most d, c.len_of-len.ensures d, c.if-first-len.false))) c.entry.ensures

pub returns-then-not-is_before-clause-above : goal.returns-then-not-is_before-clause-above
returns-then-not-is_before-clause-above c =
    let chunks = c.args.chunks.now in
    let at = value_at c.args.rows.now c.args.column in
    let run = entries_of chunks in
    let rank = rank_in chunks c.args.first in
    let within : rank < length run = rank-within chunks c.args.first.chunk c.args.first.at c.requires.first.gap.within (λ d. omega (arith, c.requires.first.gap.most d, c.len_of-len.ensures d, c.if-first-len.false)) in
    λ k h l. comes_before-above at c.args.wanted.now (length c.args.rows.now) (positions run) rank k c.requires.ordered h (omega (arith, l, positions_length run))
    (entry_before at c.args.wanted.now (length c.args.rows.now) run rank c.entry.result c.is_before.result false within c.entry.ensures c.is_before.ensures c.if-not-is_before.true)

pub overflow_add-at : goal.overflow_add-at
overflow_add-at c =
    let fits : c.len_of-len.result < 18446744073709551616 = c.len_of-len.type_inv in
    omega (arith, fits, at-most c.args.chunks.now c.args.first c.len_of-len.result c.requires.first.gap c.len_of-len.ensures, c.if-first-len.false)

pub is_before-requires-then-at-len-clause-within : goal.is_before-requires-then-at-len-clause-within
is_before-requires-then-at-len-clause-within c =
    let chunks = c.args.chunks.now in
    entry_within (length c.args.rows.now) (entries_of chunks) (before_chunk chunks c.args.first.chunk + (c.args.first.at + 1)) c.entry-then-at-len.result c.requires.positions
    (rank-within chunks c.args.first.chunk (c.args.first.at + 1) c.requires.first.gap.within (λ d. omega (arith, c.len_of-len.ensures d, c.if-at-len.true))) c.entry-then-at-len.ensures

pub is_before-requires-then-at-len-clause-found : goal.is_before-requires-then-at-len-clause-found
is_before-requires-then-at-len-clause-found c =
    let chunks = c.args.chunks.now in
    entry_lead (value_at c.args.rows.now c.args.column) (entries_of chunks) (before_chunk chunks c.args.first.chunk + (c.args.first.at + 1)) c.entry-then-at-len.result c.requires.leads
    (rank-within chunks c.args.first.chunk (c.args.first.at + 1) c.requires.first.gap.within (λ d. omega (arith, c.len_of-len.ensures d, c.if-at-len.true))) c.entry-then-at-len.ensures

pub returns-then-not-is_before-2-clause-below : goal.returns-then-not-is_before-2-clause-below
returns-then-not-is_before-2-clause-below c =
    let chunks = c.args.chunks.now in
    let at = value_at c.args.rows.now c.args.column in
    let run = entries_of chunks in
    let rank = rank_in chunks c.args.first in
    let within : rank < length run = rank-within chunks c.args.first.chunk c.args.first.at c.requires.first.gap.within (λ d. omega (arith, c.requires.first.gap.most d, c.len_of-len.ensures d, c.if-first-len.false)) in
    λ k h. comes_before-more at c.args.wanted.now (length c.args.rows.now) (positions run) rank c.requires.below
    (entry_before at c.args.wanted.now (length c.args.rows.now) run rank c.entry.result c.is_before.result true within c.entry.ensures c.is_before.ensures c.if-not-is_before.false) k (omega (arith, h))

pub returns-then-not-is_before-2-clause-above : goal.returns-then-not-is_before-2-clause-above
returns-then-not-is_before-2-clause-above c =
    let chunks = c.args.chunks.now in
    let at = value_at c.args.rows.now c.args.column in
    let run = entries_of chunks in
    let rank = before_chunk chunks c.args.first.chunk + (c.args.first.at + 1) in
    let within : rank < length run = rank-within chunks c.args.first.chunk (c.args.first.at + 1) c.requires.first.gap.within (λ d. omega (arith, c.len_of-len.ensures d, c.if-at-len.true)) in
    λ k h l. comes_before-above at c.args.wanted.now (length c.args.rows.now) (positions run) rank k c.requires.ordered h (omega (arith, l, positions_length run))
    (entry_before at c.args.wanted.now (length c.args.rows.now) run rank c.entry-then-at-len.result c.is_before-then-at-len.result false within c.entry-then-at-len.ensures c.is_before-then-at-len.ensures c.if-not-is_before-2.true)
