-- The run so far is made of the first entries of both runs, and each of its entries comes before all that is left.
use Rattle.std.proofs.Common.{◌≡◌, ◌<◌, ◌++◌, ◌∷◌, [], arith, length, slice_index_or}
use Rattle.std.proofs.lemmas.List.{take_rest, get_or_default}
use Rattle.std.proofs.lemmas.List.Elements.{All-drop}
use Rattle.su_index.specs.declared.entry.Entry.{Entry}
use Rattle.su_index.specs.inside.Lead.{IsLead}
use Rattle.su_index.specs.Entries.{positions}
use Rattle.su_index.specs.inside.Order.{value_at, compare_places}
use Rattle.su_index.proofs.Runs.{sorted-drop}
use Rattle.su_index.proofs.Spans.{run_positions}
use Rattle.su_index.proofs.Entries.{positions_length, at_position, positions-drop, merge_entries_none, merge_entries_step, merge_entries_end}
use Rattle.su_index.proofs.sorting.merged.Goals as goal

pub loop-entry-init : goal.loop-entry-init
loop-entry-init c = rw c.in_ok-run.ensures.items (merge_entries_none _ _ _)

pub value-requires-clause-within : goal.value-requires-clause-within
value-requires-clause-within c =
    let len = positions_length c.args.late.now in
    let h = run_positions _ _ _ c.requires.late.order c.loop-entry.entry-index 0 (omega (arith, len)) in
    omega (arith, h, len, at_position c.args.late.now c.loop-entry.entry-index (record { lead = 0; position = 0 }) (omega arith), c.requires.whole)

pub place-count-requires-clause-positions : goal.place-count-requires-clause-positions
place-count-requires-clause-positions c =
    rw (take_rest, positions-drop c.loop-entry.from c.args.early.now)
    (All-drop (λ p. p < length c.args.rows.now) c.loop-entry.from (positions c.args.early.now) (λ k d l. let h = run_positions _ _ _ c.requires.early.order k d l in omega (arith, h, positions_length c.args.early.now, c.requires.whole)))

pub place-count-requires-clause-ordered : goal.place-count-requires-clause-ordered
place-count-requires-clause-ordered c =
    rw (take_rest, positions-drop c.loop-entry.from c.args.early.now)
    (sorted-drop (compare_places (value_at c.args.rows.now c.args.column)) c.loop-entry.from (positions c.args.early.now) c.requires.early.order.ordered)

pub place-count-requires-clause-leads : goal.place-count-requires-clause-leads
place-count-requires-clause-leads c =
    rw take_rest (All-drop (λ (e : Entry). IsLead e.lead (value_at c.args.rows.now c.args.column e.position)) c.loop-entry.from c.args.early.now c.requires.early.leads)

pub loop-entry-preserved : goal.loop-entry-preserved
loop-entry-preserved c =
    let none : Entry = record { lead = 0; position = 0 } in
    let e : Entry = slice_index_or c.args.late.now c.loop-entry.entry-index none in
    let found = c.place-count.ensures in
    let same = take_rest c.args.early.now c.loop-entry.from in
    let pushed : c.push.new.self.items ≡ c.extend_from_slice.new.self.items ++ e ∷ [] = rw (c.is_err.ensures.negation, c.if-is_err.false) at c.push.ensures.items in
    rw (pushed, c.in_ok-extend_from_slice.ensures.items, same)
    (merge_entries_step (value_at c.args.rows.now c.args.column) c.args.early.now c.args.late.now c.loop-entry.run.items c.loop-entry.from c.loop-entry.entry-index c.place-count.result e c.requires.early c.requires.late c.loop-entry.invariant c.loop-entry-test.true
    (get_or_default c.args.late.now c.loop-entry.entry-index none e c.loop-entry-test.true) (rw same at found.within)
    (λ k h. rw (c.value.ensures, same) at (found.below k h)) (λ k h l. rw (c.value.ensures, same) at (found.above k h (rw same l))))

pub returns-clause-run : goal.returns-clause-run
returns-clause-run c =
    rw (c.in_ok-extend_from_slice-2.ensures.items, take_rest)
    (merge_entries_end (value_at c.args.rows.now c.args.column) c.args.early.now c.args.late.now c.loop-entry.run.items c.loop-entry.from c.loop-entry.entry-index c.requires.early c.requires.late c.loop-entry.invariant (omega arith) (omega arith)).0

pub returns-clause-len : goal.returns-clause-len
returns-clause-len c =
    rw (c.in_ok-extend_from_slice-2.ensures.items, take_rest)
    (merge_entries_end (value_at c.args.rows.now c.args.column) c.args.early.now c.args.late.now c.loop-entry.run.items c.loop-entry.from c.loop-entry.entry-index c.requires.early c.requires.late c.loop-entry.invariant (omega arith) (omega arith)).1
