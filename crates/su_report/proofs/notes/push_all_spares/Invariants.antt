use Rattle.std.proofs.Common.{take}
use Rattle.su_show.specs.Lines.{AreLines}
use Rattle.su_show.specs.inside.AddedTexts.{Adds}
use Rattle.su_report.specs.Parts.{SparesOf}
use Rattle.su_report.proofs.notes.push_all_spares.Given as goal

abbrev pub invariant-loop-fd : goal.invariant-loop-fd
invariant-loop-fd l = Adds (AreLines (SparesOf l.schema) (take l.fd-index l.fd-items)) l.fn.out.items l.out.items
