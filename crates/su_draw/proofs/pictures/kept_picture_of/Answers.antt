-- The lines that are drawn are those of the text without the rows that aren't kept and the folds.
use Rattle.std.proofs.Common.{rules, ◌≡◌, List, subst}
use Rattle.su_explained.specs.declared.reading.Line.{Line}
use Rattle.su_draw.specs.Once.{StandOnce, things_in_shapes}
use Rattle.su_draw.specs.Promises.{KeepsPromises, HeadingsStand, CoreIsRinged}
use Rattle.su_draw.specs.Terms.{kept_lines}
use Rattle.su_draw.proofs.pictures.kept_picture_of.Goals as goal

pub returns-in-Ok-write-clause-picture : goal.returns-in-Ok-write-clause-picture
returns-in-Ok-write-clause-picture c =
    let ls : List Line = c.in-Ok.lines in
    let same : c.as_slice-2.result.now ≡ kept_lines ls = search rules in
    let picture = c.in-Ok-draw.picture in record {
      lines = ls;
      are_lines = c.in-Ok.ensures.read;
      picture = picture;
      once = subst (λ z. StandOnce z (things_in_shapes picture.shapes)) same c.in-Ok-draw.ensures.once;
      promises = subst (λ z. KeepsPromises z picture.shapes) same c.in-Ok-draw.ensures.promises;
      headings = subst (λ z. HeadingsStand z picture.helps picture.shapes) same c.in-Ok-draw.ensures.headings;
      core = subst (λ z. CoreIsRinged z picture.shapes) same c.in-Ok-draw.ensures.core;
      legend = c.in-Ok-draw.ensures.legend;
      is = c.in-Ok-write.ensures.text;
      is_document = c.in-Ok-write.ensures.well_formed;
    }
