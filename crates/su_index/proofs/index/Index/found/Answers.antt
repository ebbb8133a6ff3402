-- The entries are in the order of their values, so that those of one value are a stretch of them: from the first that doesn't come before the value to the first that comes behind it.
use Rattle.std.proofs.Common.{◌≡◌, ◌+◌, ◌≤◌, ◌<◌, ◌∙◌, List, ℕ, length, take, drop, sym, ap, subst, arith}
use Rattle.std.proofs.lemmas.List.{take_rest}
use Rattle.su_index.specs.declared.chunk.Chunk.{Chunk}
use Rattle.su_index.specs.Entries.{entries_of, positions, stretch}
use Rattle.su_index.specs.inside.Chunks.{before_chunk, rank_in}
use Rattle.su_index.specs.Matches.{AreMatches}
use Rattle.su_index.specs.inside.Order.{value_at, IsIndex}
use Rattle.su_index.proofs.Chunked.{later-length, stretch-later}
use Rattle.su_index.proofs.Entries.{positions_length}
use Rattle.su_index.proofs.Spans.{index_positions, AreMatches-span}
use Rattle.su_index.proofs.index.Index.found.Goals as goal

pub span-requires-clause-positions : goal.span-requires-clause-positions
span-requires-clause-positions c = rw c.as_slice-chunks.ensures.value (index_positions _ _ _ c.requires.index.entries.order)

pub new-requires-2-clause-within : goal.new-requires-2-clause-within
new-requires-2-clause-within c =
    let chunks : List Chunk = c.as_slice-chunks.result.now in
    let k : ℕ = c.span.result.0.chunk in
    let at : ℕ = c.span.result.0.at in
    let n : ℕ = c.between-count.result in
    let end : rank_in chunks c.span.result.1 ≤ length (positions (entries_of chunks)) = c.span.ensures.span.end in
    let counted : n + rank_in chunks c.span.result.0 ≡ rank_in chunks c.span.result.1 = c.between-count.ensures in
    let rank : rank_in chunks c.span.result.0 ≡ before_chunk chunks k + at = λ i. before_chunk chunks k + at in
    let all = positions_length (entries_of chunks) in
    let later = later-length chunks k in
    subst (λ (rest : List Chunk). at + n ≤ length (entries_of rest)) (sym (take_rest chunks k)) (omega arith)

pub new-requires-2-clause-small : goal.new-requires-2-clause-small
new-requires-2-clause-small c =
    let chunks : List Chunk = c.as_slice-chunks.result.now in
    let k : ℕ = c.span.result.0.chunk in
    let index : IsIndex (value_at c.args.rows.now c.args.column) (length c.args.rows.now) (positions (entries_of chunks)) = rw c.as_slice-chunks.ensures.value c.requires.index.entries.order in
    let all = positions_length (entries_of chunks) in
    let whole = index.whole in
    let small = index.small in
    let later = later-length chunks k in
    subst (λ (rest : List Chunk). length (entries_of rest) < 4294967296) (sym (take_rest chunks k)) (omega arith)

pub returns : goal.returns
returns c =
    let chunks : List Chunk = c.as_slice-chunks.result.now in
    let k : ℕ = c.span.result.0.chunk in
    let at : ℕ = c.span.result.0.at in
    let n : ℕ = c.between-count.result in
    let index : IsIndex (value_at c.args.rows.now c.args.column) (length c.args.rows.now) (positions (entries_of chunks)) = rw c.as_slice-chunks.ensures.value c.requires.index.entries.order in
    let is : c.new-2.result ≡ take n (drop (rank_in chunks c.span.result.0) (positions (entries_of chunks))) =
    c.new-2.ensures ∙ ap (λ (rest : List Chunk). stretch (entries_of rest) at n) (take_rest chunks k) ∙ stretch-later chunks k at n in
    subst (AreMatches c.args.column c.args.wanted.now c.args.rows.now) (sym is)
    (AreMatches-span c.args.rows.now c.args.column (positions (entries_of chunks)) c.requires.columns index c.args.wanted.now (rank_in chunks c.span.result.0) (rank_in chunks c.span.result.1) n c.span.ensures.span c.between-count.ensures)
