-- A binary search: all entries below `low` come before the value, none from `high` on does; an entry with the value on each side gives the value between them.
use Rattle.std.proofs.Common.{◌≡◌, ◌<◌, ◌∙◌, ap, refl, sym, subst, ◌+◌, ◌-◌, ◌/◌, inl, inr, true, false, arith, length, slice_index}
use Rattle.std.proofs.lemmas.Bool.{false≢true, cases_lt}
use Rattle.su_index.specs.Entries.{entries_of, positions}
use Rattle.su_index.specs.inside.Chunks.{before_chunk}
use Rattle.su_index.specs.inside.Order.{value_at}
use Rattle.su_index.specs.inside.Spans.{comes_before, has_at}
use Rattle.su_index.proofs.Chunked.{before-len, rank-within, rank-end}
use Rattle.su_index.proofs.Entries.{positions_length, at_position, entry_within, entry_lead, entry_before}
use Rattle.su_index.proofs.Search.{comes_before-below, comes_before-above, has_between}
use Rattle.su_index.proofs.finding.place_in.Goals as goal
use Rattle.su_index.proofs.finding.place_in.Goals.{then-low_has, else-low_has}

pub loop-low-init : goal.loop-low-init
loop-low-init c =
    let chunks = c.args.chunks.now in
    let len = c.len_of-high.result in
    record {
      bound = omega arith;
      top = λ d. omega (arith, c.len_of-high.ensures d);
      below = λ k h. c.requires.below k (omega (arith, h));
      above = λ k h l. elim (cases_lt (c.args.chunk + 1) (length chunks)) [
        | inr last ↦ absurd (omega (arith, h, l, rank-end chunks c.args.chunk len c.requires.within c.len_of-high.ensures last))
        | inl less ↦ c.requires.above k less (omega (arith, h, before-len chunks c.args.chunk len c.requires.within c.len_of-high.ensures)) l
      ];
      low_has = λ has. absurd (false≢true has);
      high_has = λ has. absurd (false≢true has);
    }

pub order_at-order-requires-clause-within : goal.order_at-order-requires-clause-within
order_at-order-requires-clause-within c =
    let chunks = c.args.chunks.now in
    let middle = c.loop-low.low + (c.loop-low.high - c.loop-low.low) / 2 in
    entry_within (length c.args.rows.now) (entries_of chunks) (before_chunk chunks c.args.chunk + middle) c.entry-found.result c.requires.positions (rank-within chunks c.args.chunk middle c.requires.within (λ d. omega (arith, c.loop-low.invariant.top d, c.loop-low-test.true))) c.entry-found.ensures

pub order_at-order-requires-clause-found : goal.order_at-order-requires-clause-found
order_at-order-requires-clause-found c =
    let chunks = c.args.chunks.now in
    let middle = c.loop-low.low + (c.loop-low.high - c.loop-low.low) / 2 in
    entry_lead (value_at c.args.rows.now c.args.column) (entries_of chunks) (before_chunk chunks c.args.chunk + middle) c.entry-found.result c.requires.leads (rank-within chunks c.args.chunk middle c.requires.within (λ d. omega (arith, c.loop-low.invariant.top d, c.loop-low-test.true))) c.entry-found.ensures

pub order_at-order-requires-clause-known : goal.order_at-order-requires-clause-known
order_at-order-requires-clause-known c =
    let at = value_at c.args.rows.now c.args.column in
    let chunks = c.args.chunks.now in
    let run = entries_of chunks in
    let middle = c.loop-low.low + (c.loop-low.high - c.loop-low.low) / 2 in
    let rank = before_chunk chunks c.args.chunk + middle in
    let within : rank < length run = rank-within chunks c.args.chunk middle c.requires.within (λ d. omega (arith, c.loop-low.invariant.top d, c.loop-low-test.true)) in
    let here : slice_index (positions run) rank ≡ c.entry-found.result.position = at_position run rank c.entry-found.result within ∙ ap (λ e. e.position) (sym c.entry-found.ensures) in
    elim c.if-low_has.branch [
      | then-low_has w ↦ λ both.
          let low = c.loop-low.invariant.low_has w.if-low_has.true in
          let high = c.loop-low.invariant.high_has (sym w.order_at-is ∙ both) in
          subst (λ p. has_at at c.args.wanted.now p ≡ true) here
          (has_between at c.args.wanted.now (positions run) low.0 rank high.0 c.requires.ordered (omega (arith, low.1)) (omega (arith, high.1, c.loop-low-test.true)) (omega (arith, high.2, positions_length run)) low.2 high.3)
      | else-low_has w ↦ λ both. absurd (false≢true (sym w.if-low_has.false ∙ sym w.order_at-is ∙ both))
    ]

pub loop-low-preserved-then-is_lt : goal.loop-low-preserved-then-is_lt
loop-low-preserved-then-is_lt c =
    let at = value_at c.args.rows.now c.args.column in
    let chunks = c.args.chunks.now in
    let run = entries_of chunks in
    let middle = c.loop-low.low + (c.loop-low.high - c.loop-low.low) / 2 in
    let rank = before_chunk chunks c.args.chunk + middle in
    let within : rank < length run = rank-within chunks c.args.chunk middle c.requires.within (λ d. omega (arith, c.loop-low.invariant.top d, c.loop-low-test.true)) in
    let here : slice_index (positions run) rank ≡ c.entry-found.result.position = at_position run rank c.entry-found.result within ∙ ap (λ e. e.position) (sym c.entry-found.ensures) in
    let before : c.is_lt.result ≡ comes_before at c.args.wanted.now c.args.position c.entry-found.result.position = rw (c.is_lt.ensures, c.then.ensures, c.order_at-order.ensures, c.cmp.ensures) refl in
    record {
      bound = omega arith;
      top = c.loop-low.invariant.top;
      below = λ k h. comes_before-below at c.args.wanted.now c.args.position (positions run) k rank c.requires.ordered (omega (arith, h)) (omega (arith, within, positions_length run))
          (entry_before at c.args.wanted.now c.args.position run rank c.entry-found.result c.is_lt.result true within c.entry-found.ensures before c.if-is_lt.true);
      above = c.loop-low.invariant.above;
      low_has = λ has. (rank, omega arith, rw here (rw (← c.order_at-order.ensures) (sym c.is_eq-low_has.ensures ∙ has)));
      high_has = c.loop-low.invariant.high_has;
    }

pub loop-low-preserved : goal.loop-low-preserved
loop-low-preserved c =
    let at = value_at c.args.rows.now c.args.column in
    let chunks = c.args.chunks.now in
    let run = entries_of chunks in
    let middle = c.loop-low.low + (c.loop-low.high - c.loop-low.low) / 2 in
    let rank = before_chunk chunks c.args.chunk + middle in
    let within : rank < length run = rank-within chunks c.args.chunk middle c.requires.within (λ d. omega (arith, c.loop-low.invariant.top d, c.loop-low-test.true)) in
    let here : slice_index (positions run) rank ≡ c.entry-found.result.position = at_position run rank c.entry-found.result within ∙ ap (λ e. e.position) (sym c.entry-found.ensures) in
    let before : c.is_lt.result ≡ comes_before at c.args.wanted.now c.args.position c.entry-found.result.position = rw (c.is_lt.ensures, c.then.ensures, c.order_at-order.ensures, c.cmp.ensures) refl in
    record {
      bound = omega arith;
      top = λ d. omega (arith, c.loop-low.invariant.top d, c.loop-low-test.true);
      below = c.loop-low.invariant.below;
      above = λ k h l. comes_before-above at c.args.wanted.now c.args.position (positions run) rank k c.requires.ordered h (omega (arith, l, positions_length run))
          (entry_before at c.args.wanted.now c.args.position run rank c.entry-found.result c.is_lt.result false within c.entry-found.ensures before c.if-is_lt.false);
      low_has = c.loop-low.invariant.low_has;
      high_has = λ has. (rank, omega arith, within, rw here (rw (← c.order_at-order.ensures) (sym c.is_eq-high_has.ensures ∙ has)));
    }
