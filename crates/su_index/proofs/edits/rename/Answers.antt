-- The entry of `from` is found at its place, and the place of `to` is found among the same entries; moving the one to the other keeps the order.
use Rattle.std.proofs.Common.{◌≡◌, ◌<◌, ◌≤◌, ◌+◌, Contains, ℕ, true, false, get_or, length, arith}
use Rattle.std.specs.List.{insert, remove}
use Rattle.su_index.specs.declared.entry.Entry.{Entry}
use Rattle.su_index.specs.Entries.{entries_of, positions}
use Rattle.su_index.specs.inside.Chunks.{rank_in, IsPlace}
use Rattle.su_index.specs.inside.Order.{value_at}
use Rattle.su_index.specs.inside.Spans.{comes_before}
use Rattle.std.proofs.lemmas.List.Edits.{length-insert, length-remove}
use Rattle.su_index.proofs.Changed.{place_found, ordered-renamed, renamed_order, absent_removed, count_by-insert, count_by-remove}
use Rattle.su_index.proofs.Chunked.{rank-most, place-there}
use Rattle.su_index.proofs.Entries.{positions_length, positions-insert, positions-remove, leads-insert_with, leads-remove}
use Rattle.su_index.proofs.edits.rename.Goals as goal

pub shift-requires-clause-there : goal.shift-requires-clause-there
shift-requires-clause-there c =
    let p = c.find-old.ensures in
    let same = c.as_slice.ensures.value in
    let chunks = c.args.chunks.now.items in
    let run = entries_of chunks in
    let s = rank_in chunks c.find-old.result in
    let len = positions_length run in
    let place : IsPlace chunks c.find-old.result = rw same at p.place in
    let f = place_found (value_at c.args.rows.now c.args.column) (positions run) s c.args.from c.requires.ordered (omega (arith, rank-most chunks c.find-old.result place.gap, len)) c.requires.there (λ k h. rw (c.value-wanted.ensures, same) at (p.below k (rw same h))) (λ k h l. rw (c.value-wanted.ensures, same) at (p.above k (rw same h) (rw same (omega (arith, l, len))))) in
    place-there chunks c.find-old.result place (omega (arith, f.0, len))

pub shift-requires-clause-order : goal.shift-requires-clause-order
shift-requires-clause-order c =
    let p = c.find-old.ensures in
    let q = c.find-new.ensures in
    let same = c.as_slice.ensures.value in
    let same' = c.as_slice-2.ensures.value in
    let at = value_at c.args.rows.now c.args.column in
    let chunks = c.args.chunks.now.items in
    let run = entries_of chunks in
    let s = rank_in chunks c.find-old.result in
    let t = rank_in chunks c.find-new.result in
    let len = positions_length run in
    let place : IsPlace chunks c.find-old.result = rw same at p.place in
    let f = place_found at (positions run) s c.args.from c.requires.ordered (omega (arith, rank-most chunks c.find-old.result place.gap, len)) c.requires.there (λ k h. rw (c.value-wanted.ensures, same) at (p.below k (rw same h))) (λ k h l. rw (c.value-wanted.ensures, same) at (p.above k (rw same h) (rw same (omega (arith, l, len))))) in
    renamed_order at (positions run) s t c.args.from c.args.to c.requires.earlier f.0 f.1 (λ k h. rw (c.value-wanted.ensures, same') at (q.below k (rw same' h)))

pub returns : goal.returns
returns c =
    let p = c.find-old.ensures in
    let q = c.find-new.ensures in
    let same = c.as_slice.ensures.value in
    let same' = c.as_slice-2.ensures.value in
    let at = value_at c.args.rows.now c.args.column in
    let chunks = c.args.chunks.now.items in
    let run = entries_of chunks in
    let s = rank_in chunks c.find-old.result in
    let t = rank_in chunks c.find-new.result in
    let len = positions_length run in
    let place : IsPlace chunks c.find-old.result = rw same at p.place in
    let f = place_found at (positions run) s c.args.from c.requires.ordered (omega (arith, rank-most chunks c.find-old.result place.gap, len)) c.requires.there (λ k h. rw (c.value-wanted.ensures, same) at (p.below k (rw same h))) (λ k h l. rw (c.value-wanted.ensures, same) at (p.above k (rw same h) (rw same (omega (arith, l, len))))) in
    let below : (k : ℕ) → k < t → comes_before at (at c.args.from) c.args.to (get_or (positions run) k 0) ≡ true = λ k h. rw (c.value-wanted.ensures, same') at (q.below k (rw same' h)) in
    let above : (k : ℕ) → t ≤ k → k < length (positions run) → comes_before at (at c.args.from) c.args.to (get_or (positions run) k 0) ≡ false = λ k h l. rw (c.value-wanted.ensures, same') at (q.above k (rw same' h) (rw same' (omega (arith, l, len)))) in
    let order : t ≤ s = renamed_order at (positions run) s t c.args.from c.args.to c.requires.earlier f.0 f.1 below in
    let entry : Entry = record { lead = c.lead-lead.result; position = c.args.to } in
    let items : entries_of c.shift.new.chunks.items ≡ insert (remove run s) t entry = c.shift.ensures.entries in
    let more = positions-insert (remove run s) t entry in
    let left = positions-remove run s in
    let short : length (remove run s) + 1 ≡ length run = length-remove run s (omega (arith, f.0, len)) in
    let out : ¬ Contains (positions (remove run s)) c.args.to = rw left (absent_removed (positions run) s c.args.to f.0 c.requires.apart) in
    record {
      some = c.shift.ensures.some;
      ordered = rw (items, more, left) (ordered-renamed at (positions run) s t c.args.from c.args.to c.requires.ordered f.0 order c.requires.apart below above);
      count = λ test. rw (items, more, left) (omega (arith, count_by-insert test (remove (positions run) s) t c.args.to, count_by-remove test (positions run) s c.args.from f.0 f.1));
      len = rw items (omega (arith, length-insert (remove run s) t entry (omega (arith, short, f.0, order, len)), short));
      leads = rw items (leads-insert_with at (at c.args.from) (remove run s) t entry (leads-remove at run s c.requires.leads) out (rw c.value-wanted.ensures at c.lead-lead.ensures));
    }
