-- Where the values are stored ones, reading the text written gives back the header's rows.
use Rattle.std.proofs.Common.{◌∙◌, ap, sym}
use Rattle.su_csv.specs.File.{reading}
use Rattle.su_csv.specs.Written.{text_of}
use Rattle.su_csv.proofs.WrittenRows.{reads-back}
use Rattle.su_csv.proofs.writing.write_behind.Goals as goal

pub returns-in-Ok-clause-reads_back : goal.returns-in-Ok-clause-reads_back
returns-in-Ok-clause-reads_back c columns names can =
    ap (λ header. reading columns (text_of header c.args.rows.now)) (sym names) ∙ reads-back columns c.args.rows.now c.in_ok-put_all.ensures.stored can
