-- Each file is read in turn, and reading tells nothing; so where the schema is not opened, or the script's file or memory fails, the run ends with what had been read, and else the script's end is its own.
use Rattle.sysu.proofs.RunEnds.{not_opened, no_session, script_fails, script_read}
use Rattle.sysu.proofs.top.run_files.Goals as goal

-- the schema is not opened
pub returns-in-Err-clause-ends : goal.returns-in-Err-clause-ends
returns-in-Err-clause-ends g c = not_opened (record { schema = c.args.schema; script = c.args.script }) c.args.outside.now _ c.in-Err.status c.in-Err.ensures.ends

-- there is no memory for a session
pub returns-in_default-clause-ends : goal.returns-in_default-clause-ends
returns-in_default-clause-ends g c = no_session (record { schema = c.args.schema; script = c.args.script }) c.args.outside.now c.open_schema.new.outside c.in-Ok.schema c.in-Ok.ensures.ends

-- the script is not read
pub returns-in-Err-read_script-clause-ends : goal.returns-in-Err-read_script-clause-ends
returns-in-Err-read_script-clause-ends g c =
    script_fails (record { schema = c.args.schema; script = c.args.script }) c.args.outside.now c.open_schema.new.outside c.in-Ok.schema c.in-Ok.ensures.ends _ c.in-Err-read_script.ensures.rest
    c.in-Err-read_script.status c.in-Err-read_script.ensures.ends

-- the script is answered
pub returns-in-Ok-read_script-clause-ends : goal.returns-in-Ok-read_script-clause-ends
returns-in-Ok-read_script-clause-ends g c =
    script_read (record { schema = c.args.schema; script = c.args.script }) c.args.outside.now c.open_schema.new.outside c.in-Ok.schema c.in-Ok.ensures.ends _ c.in-Ok-read_script.ensures.rest
    _ c.as_slice.result.now (rw c.as_slice.ensures c.in-Ok-read_script.ensures.ends) c.answer_all.result (c.answer_all.ensures.ends _ c.in-Ok.schema c.in-Ok-open.ensures)
