use Rattle.su_ddl.proofs.Files.{SoFar}
use Rattle.su_ddl.proofs.reading.read_statements.Given as goal

abbrev pub invariant-loop-span : goal.invariant-loop-span
invariant-loop-span l = SoFar l.bytes l.span-items l.span-index l.number l.schema
