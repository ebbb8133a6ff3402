use Rattle.std.specs.List.{range_with_len}
use Rattle.su_show.specs.Lines.{AreLines}
use Rattle.su_show.specs.inside.AddedTexts.{Adds}
use Rattle.su_report.specs.MaximalParts.{MeetingOf}
use Rattle.su_report.proofs.maximal_parts.push_meetings.Given as goal

abbrev pub invariant-loop-a : goal.invariant-loop-a
invariant-loop-a l = Adds (AreLines (MeetingOf l.schema l.fn.core) (range_with_len 0 l.a)) l.fn.out.items l.out.items
