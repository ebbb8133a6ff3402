-- Both files are read before anything is told; so a schema that isn't opened or a script that isn't read ends the run with nothing written of the script, and else its end is that of telling the SQL.
use Rattle.sysu_sql.proofs.SqlRuns.{not_opened, script_fails, script_told}
use Rattle.sysu_sql.proofs.top.run_named.Goals as goal

-- the schema is not opened
pub returns-in-Err-clause-ends : goal.returns-in-Err-clause-ends
returns-in-Err-clause-ends g c = not_opened (record { schema = c.args.schema; script = c.args.script; dialect = c.args.dialect }) c.args.outside.now _ c.in-Err.status c.in-Err.ensures.ends

-- the script is not read
pub returns-in-Err-read_script-clause-ends : goal.returns-in-Err-read_script-clause-ends
returns-in-Err-read_script-clause-ends g c =
    script_fails (record { schema = c.args.schema; script = c.args.script; dialect = c.args.dialect }) c.args.outside.now c.open_schema.new.outside _ c.in-Ok.schema c.in-Ok.ensures.ends
    c.in-Err-read_script.ensures.rest c.in-Err-read_script.status c.in-Err-read_script.ensures.ends

-- the script is written as SQL
pub returns-in-Ok-read_script-clause-ends : goal.returns-in-Ok-read_script-clause-ends
returns-in-Ok-read_script-clause-ends g c =
    script_told (record { schema = c.args.schema; script = c.args.script; dialect = c.args.dialect }) c.args.outside.now c.open_schema.new.outside _ c.in-Ok.schema c.in-Ok.ensures.ends
    c.in-Ok-read_script.ensures.rest _ c.as_slice.result.now (rw c.as_slice.ensures c.in-Ok-read_script.ensures.ends) c.tell_script.result c.tell_script.ensures
