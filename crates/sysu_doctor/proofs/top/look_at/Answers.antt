-- The schema's file is read, and the report on its schema told; where it isn't opened, the run ends so.
use Rattle.std.proofs.Common.{None, [], inl, refl}
use Rattle.sysu_doctor.specs.Words.{Named}
use Rattle.sysu_doctor.proofs.ScriptRuns.{refusals_none}
use Rattle.sysu_doctor.proofs.DoctorRuns.{not_opened, at_schema, report_told}
use Rattle.sysu_doctor.proofs.top.look_at.Goals as goal

pub returns-in-Err-clause-ends : goal.returns-in-Err-clause-ends
returns-in-Err-clause-ends g c = not_opened (record { schema = c.args.schema; script = None }) c.args.outside.now _ c.in-Err.status c.in-Err.ensures.ends

pub returns-in-Ok-clause-ends : goal.returns-in-Ok-clause-ends
returns-in-Ok-clause-ends g c =
    let names : Named = record { schema = c.args.schema; script = None } in
    let opened = c.in-Ok.ensures.ends in
    report_told names c.args.outside.now c.open_schema.new.outside (at_schema names c.args.outside.now c.open_schema.new.outside c.in-Ok.schema opened) c.tell_report.new.outside c.in-Ok.schema [] _ (refusals_none _ c.none.ensures.fault c.none.ensures.lines) (inl (refl, opened.accepted, refl)) c.tell_report.result c.tell_report.ensures
