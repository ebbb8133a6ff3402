-- What is told is what was found before and behind it the report on the schema, with the status of both.
use Rattle.std.proofs.Common.{inl}
use Rattle.sysu_doctor.proofs.telling.tell_report.Goals as goal

pub returns : goal.returns
returns g c = inl record { report = c.in-Ok.report; report_is = c.in-Ok.ensures; told = rw (c.status_of.ensures.by, c.as_slice.ensures, c.in-Ok-add.ensures.fault, c.in-Ok-add.ensures.lines) at c.tell.ensures }
