-- The entries before the place found are those that come before the value at the position, so inserting there keeps the order, and each entry keeps its lead.
use Rattle.std.proofs.Common.{◌≡◌, arith}
use Rattle.std.specs.List.{insert}
use Rattle.su_index.specs.declared.entry.Entry.{Entry}
use Rattle.su_index.specs.Entries.{entries_of, positions}
use Rattle.su_index.specs.inside.Chunks.{rank_in, IsPlace}
use Rattle.su_index.specs.inside.Order.{value_at}
use Rattle.su_index.proofs.Changed.{ordered-insert_with, count_by-insert}
use Rattle.su_index.proofs.Chunked.{rank-most}
use Rattle.su_index.proofs.Entries.{positions_length, positions-insert, leads-insert_with}
use Rattle.su_index.proofs.edits.put_in.Goals as goal

pub returns-clause-ordered : goal.returns-clause-ordered
returns-clause-ordered c =
    let p = c.find-place.ensures in
    let same = c.as_slice.ensures.value in
    let chunks = c.args.chunks.now.items in
    let run = entries_of chunks in
    let rank = rank_in chunks c.find-place.result in
    let len = positions_length run in
    let place : IsPlace chunks c.find-place.result = rw same at p.place in
    let entry : Entry = record { lead = c.lead-lead.result; position = c.args.position } in
    let items : entries_of c.put_at.new.chunks.items ≡ insert run rank entry = c.put_at.ensures.entries in
    rw (items, positions-insert run rank entry) (
    ordered-insert_with (value_at c.args.rows.now c.args.column) c.args.wanted.now (positions run) rank c.args.position c.requires.ordered (omega (arith, rank-most chunks c.find-place.result place.gap, len)) c.requires.apart
    (λ k h. rw same at (p.below k (rw same h))) (λ k h l. rw same at (p.above k (rw same h) (rw same (omega (arith, l, len))))))

pub returns-clause-count : goal.returns-clause-count
returns-clause-count c =
    let run = entries_of c.args.chunks.now.items in
    let rank = rank_in c.args.chunks.now.items c.find-place.result in
    let entry : Entry = record { lead = c.lead-lead.result; position = c.args.position } in
    let items : entries_of c.put_at.new.chunks.items ≡ insert run rank entry = c.put_at.ensures.entries in
    λ test. rw (items, positions-insert run rank entry) (count_by-insert test (positions run) rank c.args.position)

pub returns-clause-leads : goal.returns-clause-leads
returns-clause-leads c =
    let run = entries_of c.args.chunks.now.items in
    let rank = rank_in c.args.chunks.now.items c.find-place.result in
    let entry : Entry = record { lead = c.lead-lead.result; position = c.args.position } in
    let items : entries_of c.put_at.new.chunks.items ≡ insert run rank entry = c.put_at.ensures.entries in
    rw items (leads-insert_with (value_at c.args.rows.now c.args.column) c.args.wanted.now run rank entry c.requires.leads c.requires.apart c.lead-lead.ensures)
