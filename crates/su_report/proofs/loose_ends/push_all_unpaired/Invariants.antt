use Rattle.std.specs.List.{range_with_len}
use Rattle.su_show.specs.Lines.{AreLines}
use Rattle.su_show.specs.inside.AddedTexts.{Adds}
use Rattle.su_report.specs.Parts.{ColumnsOf}
use Rattle.su_report.proofs.loose_ends.push_all_unpaired.Given as goal

abbrev pub invariant-loop-r : goal.invariant-loop-r
invariant-loop-r l = Adds (AreLines (ColumnsOf l.schema) (range_with_len 0 l.r)) l.fn.out.items l.out.items
