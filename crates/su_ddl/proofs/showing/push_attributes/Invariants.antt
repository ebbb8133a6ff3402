use Rattle.std.proofs.Common.{◌≡◌, ◌++◌, map, take}
use Rattle.su_ddl.specs.Shown.{lines_of}
use Rattle.su_ddl.specs.ShownDefinitions.{attribute_definition}
use Rattle.su_ddl.proofs.showing.push_attributes.Given as goal

abbrev pub invariant-loop-a : goal.invariant-loop-a
invariant-loop-a l = l.out.items ≡ l.fn.out.items ++ lines_of (take l.a (map attribute_definition l.schema.attributes))
