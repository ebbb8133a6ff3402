-- The entries of all chunks are those of the chunks one behind another, so removing one from its chunk removes it from the whole at its rank.
use Rattle.std.proofs.Common.{◌∙◌, ap, arith}
use Rattle.std.specs.List.{remove}
use Rattle.su_index.specs.declared.entry.Entry.{Entry}
use Rattle.su_index.proofs.Chunked.{remove-entries}
use Rattle.su_index.proofs.chunks.dig.Goals as goal

pub returns-clause-entries : goal.returns-clause-entries
returns-clause-entries c =
    let here = c.index_mut.ensures.value in
    let inside = rw (← here) at (c.requires.there c.index_mut.result.now) in
    let none : Entry = record { lead = 0; position = 0 } in
    let is = rw (c.remove-entry.ensures.succeeds none inside) at c.remove-entry.ensures.items in
    remove-entries c.args.chunks.now.items c.args.place.chunk c.args.place.at (record { entries = c.remove-entry.new.self }) c.index_mut.result.now c.requires.within (rw (← here) (omega (arith, inside, c.index_mut.result.now.entries.ok.0))) (is ∙ ap (λ x. remove x.entries.items c.args.place.at) here)
