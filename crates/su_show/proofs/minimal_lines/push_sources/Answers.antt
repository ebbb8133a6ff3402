-- The columns are the row's essential ones, so the objects that have them are its sources, whose line is added.
use Rattle.std.proofs.Common.{refl}
use Rattle.std.proofs.lemmas.Result.{on_ok_weaker}
use Rattle.su_show.specs.MinimalLines.{sources_line}
use Rattle.su_show.proofs.minimal_lines.push_sources.Goals as goal

pub returns : goal.returns
returns c =
    let found = c.sources_within-found.result in
    on_ok_weaker c.push_source_line.result
    (λ e. (sources_line c.args.schema.now c.args.row found, e, record { sources = found; are = c.sources_within-found.ensures.sources c.args.minimal.now.tableau c.args.minimal.now.mask c.args.row c.requires; is = refl }))
    c.push_source_line.ensures
