use Rattle.std.proofs.Common.{take}
use Rattle.std.specs.Prelude.{map}
use Rattle.su_ddl.specs.Files.{statement_of}
use Rattle.su_bank.specs.Banks.{Takes}
use Rattle.su_bank.proofs.banks.take_script.Given as goal

abbrev pub invariant-loop-span : goal.invariant-loop-span
invariant-loop-span g l = Takes l.fn.session (map (statement_of l.script) (take l.span-index l.span-items)) l.session
