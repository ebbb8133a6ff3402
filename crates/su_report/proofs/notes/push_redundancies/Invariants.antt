use Rattle.std.proofs.Common.{take}
use Rattle.su_show.specs.Lines.{AreLines}
use Rattle.su_show.specs.inside.AddedTexts.{Adds}
use Rattle.su_report.specs.Parts.{RedundantLine}
use Rattle.su_report.proofs.notes.push_redundancies.Given as goal

abbrev pub invariant-loop-i : goal.invariant-loop-i
invariant-loop-i l = Adds (AreLines (RedundantLine l.schema) (take l.i-index l.i-items)) l.fn.out.items l.out.items
