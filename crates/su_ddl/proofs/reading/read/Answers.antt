-- A file makes one outcome at most, and no refusal of a statement is for want of memory.
use Rattle.su_ddl.proofs.Causes.{never_memory}
use Rattle.su_ddl.proofs.Files.{only_outcome}
use Rattle.su_ddl.proofs.reading.read.Goals as goal

pub returns-clause-only : goal.returns-clause-only
returns-clause-only c = only_outcome c.args.bytes.now c.read_statements.result c.read_statements.ensures.schema c.read_statements.ensures.fault

pub returns-clause-named : goal.returns-clause-named
returns-clause-named c = never_memory c.args.bytes.now c.read_statements.result c.read_statements.ensures.fault
