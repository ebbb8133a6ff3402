-- The words are those of a check, of a bank, of a run or of none, and each form excludes the others; so how the one asked for ends is how the words come out.
use Rattle.std.proofs.Common.{sym}
use Rattle.sysu.proofs.Commands.{run_is, check_is, generate_is}
use Rattle.sysu.proofs.top.run_words.Goals as goal

pub returns-in-Some-clause-comes : goal.returns-in-Some-clause-comes
returns-in-Some-clause-comes g c = check_is c.args.words.now c.in-Some.file.now _ _ c.check_file.result (sym c.in-Some.ensures) c.check_file.ensures.ends

pub returns-in-Some-rows_asked-clause-comes : goal.returns-in-Some-rows_asked-clause-comes
returns-in-Some-rows_asked-clause-comes g c = generate_is c.args.words.now c.in-Some-rows_asked.n _ _ c.generate.result c.in-Some-rows_asked.ensures c.generate.ensures.ends

pub returns-clause-comes : goal.returns-clause-comes
returns-clause-comes g c =
    run_is c.args.words.now (record { schema = c.in-Some-command_of.asked.schema.now; script = c.in-Some-command_of.asked.script.now }) _ _ c.run_files.result
    (sym c.in-Some-command_of.ensures.names)
    (rw (← c.in-Ok-Ok.ensures, ← c.in-Ok-Ok.ensures') c.run_files.ensures.ends)
