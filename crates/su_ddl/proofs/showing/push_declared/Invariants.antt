use Rattle.std.proofs.Common.{◌≡◌, ◌++◌, map, take}
use Rattle.su_ddl.specs.Shown.{lines_of}
use Rattle.su_ddl.specs.ShownDefinitions.{maximal_definition}
use Rattle.su_ddl.proofs.showing.push_declared.Given as goal

abbrev pub invariant-loop-set : goal.invariant-loop-set
invariant-loop-set l = l.out.items ≡ l.fn.out.items ++ lines_of (take l.set-index (map (maximal_definition l.schema) l.schema.declared))
