-- In lines that are read each row stands behind its term's line, so the promises are kept.
use Rattle.std.proofs.Common.{rules, ◌≡◌, List, sym, subst}
use Rattle.su_explained.specs.declared.reading.Line.{Line}
use Rattle.su_explained.specs.TextLines.{AreLinesOf}
use Rattle.su_draw.proofs.RowLines.{rows_stand_behind}
use Rattle.su_draw.proofs.pictures.picture_of.Goals as goal

pub returns-in-Ok-write-clause-picture : goal.returns-in-Ok-write-clause-picture
returns-in-Ok-write-clause-picture c =
    let ls : List Line = c.as_slice.result.now in
    let same : ls ≡ c.in-Ok.lines = search rules in
    let are : AreLinesOf c.args.text.now ls = subst (λ z. AreLinesOf c.args.text.now z) (sym same) c.in-Ok.ensures.read in record {
      lines = ls;
      are_lines = are;
      picture = c.in-Ok-draw.picture;
      once = c.in-Ok-draw.ensures.once;
      arrows = c.in-Ok-draw.ensures.arrows (rows_stand_behind c.args.text.now ls are);
      sources = c.in-Ok-draw.ensures.sources (rows_stand_behind c.args.text.now ls are);
      promises = c.in-Ok-draw.ensures.promises;
      headings = c.in-Ok-draw.ensures.headings;
      core = c.in-Ok-draw.ensures.core;
      legend = c.in-Ok-draw.ensures.legend;
      is = c.in-Ok-write.ensures.text;
      is_document = c.in-Ok-write.ensures.well_formed;
    }
