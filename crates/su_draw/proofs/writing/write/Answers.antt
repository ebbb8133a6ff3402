-- The elements are well-formed each by itself, so the text that they make is a document.
use Rattle.std.proofs.Common.{arith}
use Rattle.std.proofs.lemmas.Grind.{common_steps}
use Rattle.su_draw.proofs.WellFormed.{svg_document}
use Rattle.su_draw.proofs.writing.write.Goals as goal

pub returns-clause-well_formed : goal.returns-clause-well_formed
returns-clause-well_formed c = svg_document c.args.picture.now c.from_vec.result (grind (arith, common_steps))
