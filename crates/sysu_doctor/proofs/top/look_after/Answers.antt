-- Both files are read and the statements answered before anything is told: so a schema that isn't opened, a script that isn't read and a statement that ends the run end it with nothing written, and else its end is that of telling the report on what the statements leave.
use Rattle.std.proofs.Common.{Some, refl}
use Rattle.sysu_doctor.specs.Words.{Named}
use Rattle.sysu_doctor.proofs.DoctorRuns.{not_opened, no_memory, script_fails, at_script, script_stops, script_told}
use Rattle.sysu_doctor.proofs.top.look_after.Goals as goal

-- the schema is not opened
pub returns-in-Err-clause-ends : goal.returns-in-Err-clause-ends
returns-in-Err-clause-ends g c = not_opened (record { schema = c.args.schema; script = Some c.args.script }) c.args.outside.now _ c.in-Err.status c.in-Err.ensures.ends

-- the script is not read
pub returns-in-Err-read_script-clause-ends : goal.returns-in-Err-read_script-clause-ends
returns-in-Err-read_script-clause-ends g c =
    script_fails (record { schema = c.args.schema; script = Some c.args.script }) c.args.script refl c.args.outside.now c.open_schema.new.outside _ c.in-Ok.schema c.in-Ok.ensures.ends
    c.in-Err-read_script.ensures.rest c.in-Err-read_script.status c.in-Err-read_script.ensures.ends

-- there is no memory for a session
pub returns-in_default-clause-ends : goal.returns-in_default-clause-ends
returns-in_default-clause-ends g c =
    let names : Named = record { schema = c.args.schema; script = Some c.args.script } in
    no_memory names c.args.outside.now c.read_script.new.outside
    (at_script names c.args.script refl c.args.outside.now c.open_schema.new.outside c.read_script.new.outside c.in-Ok.schema c.in-Ok.ensures.ends c.in-Ok-read_script.ensures.rest c.in-Ok-read_script.bytes c.in-Ok-read_script.ensures.ends)

-- a statement ends the run
pub returns-clause-ends : goal.returns-clause-ends
returns-clause-ends g c =
    script_stops (record { schema = c.args.schema; script = Some c.args.script }) c.args.script refl c.args.outside.now c.open_schema.new.outside c.read_script.new.outside c.in-Ok.schema c.in-Ok.ensures.ends c.in-Ok-read_script.ensures.rest
    c.in-Ok-read_script.bytes c.in-Ok-read_script.ensures.ends c.answer_all.new.session c.answer_all.new.outside c.in-Err-answer_all.ensures.rest c.in-Err-answer_all.status
    (rw (c.as_slice.ensures, c.in-Ok-open.ensures) at c.in-Err-answer_all.ensures.ends)

-- the report is told
pub returns-in-Ok-answer_all-clause-ends : goal.returns-in-Ok-answer_all-clause-ends
returns-in-Ok-answer_all-clause-ends g c =
    script_told (record { schema = c.args.schema; script = Some c.args.script }) c.args.script refl c.args.outside.now c.open_schema.new.outside c.read_script.new.outside c.in-Ok.schema c.in-Ok.ensures.ends c.in-Ok-read_script.ensures.rest
    c.in-Ok-read_script.bytes c.in-Ok-read_script.ensures.ends c.answer_all.new.session c.answer_all.new.outside c.tell_report.new.outside c.in-Ok-answer_all.ensures.rest c.in-Ok-answer_all.found
    (rw (c.as_slice.ensures, c.in-Ok-open.ensures) at c.in-Ok-answer_all.ensures.ends) c.tell_report.result (rw (c.schema.ensures, c.database.ensures) at c.tell_report.ensures)
