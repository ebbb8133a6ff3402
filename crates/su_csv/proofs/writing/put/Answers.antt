-- The writer's style isn't the one that quotes fields by their kind, and a flexible writer writes a record as the standard one does.
use Rattle.std.proofs.Common.{◌≢◌}
use Rattle.csv.specs.Records.{fields_of}
use Rattle.csv.specs.declared.writer.QuoteStyle.TheVariants as style
use Rattle.su_csv.proofs.Flexible.{same-row}
use Rattle.su_csv.proofs.writing.put.Goals as goal

pub returns-clause-text : goal.returns-clause-text
returns-clause-text c =
    let plain : c.args.writer.now.cfg.style ≢ style.NonNumeric = rw (c.requires.setup) (λ e. cc e) in
    let h = c.in-Ok.ensures.bytes c.requires.fields c.requires.wrote plain in
    rw (c.requires.setup, same-row (fields_of c.args.fields.now)) at h
