use Rattle.std.specs.List.{range_with_len}
use Rattle.su_show.specs.Lines.{AreLines}
use Rattle.su_show.specs.inside.AddedTexts.{Adds}
use Rattle.su_report.specs.ObjectParts.{ObjectNotes}
use Rattle.su_report.proofs.object_parts.push_object_notes.Given as goal

abbrev pub invariant-loop-o : goal.invariant-loop-o
invariant-loop-o l = Adds (AreLines (ObjectNotes l.schema) (range_with_len 0 l.o)) l.fn.out.items l.out.items
