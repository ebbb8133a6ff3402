-- The lines so far are those of the attributes before the number.
use Rattle.su_show.proofs.Lines.{adds_none, adds_next}
use Rattle.su_report.specs.MaximalParts.{MeetingOf}
use Rattle.su_report.proofs.maximal_parts.push_meetings.Goals as goal

pub loop-a-init : goal.loop-a-init
loop-a-init c = adds_none (MeetingOf c.args.schema.now c.args.core) c.args.out.now.items

pub loop-a-preserved : goal.loop-a-preserved
loop-a-preserved c = adds_next (MeetingOf c.args.schema.now c.args.core) c.loop-a.a c.args.out.now.items c.loop-a.out.items c.push_meeting_in.new.out.items c.loop-a.invariant c.in_ok-push_meeting_in.ensures
