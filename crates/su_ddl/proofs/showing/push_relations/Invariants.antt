use Rattle.std.proofs.Common.{◌≡◌, ◌++◌, map, take}
use Rattle.su_ddl.specs.Shown.{lines_of}
use Rattle.su_ddl.specs.ShownDefinitions.{relation_definition}
use Rattle.su_ddl.proofs.showing.push_relations.Given as goal

abbrev pub invariant-loop-r : goal.invariant-loop-r
invariant-loop-r l = l.out.items ≡ l.fn.out.items ++ lines_of (take l.r (map relation_definition l.schema.relations))
