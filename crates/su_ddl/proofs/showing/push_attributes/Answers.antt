-- What is written are the lines of the attributes so far, each by its definition.
use Rattle.std.proofs.Common.{map}
use Rattle.su_ddl.specs.ShownDefinitions.{attribute_definition}
use Rattle.su_ddl.proofs.Lines.{one_line}
use Rattle.su_ddl.proofs.showing.push_attributes.Goals as goal

pub loop-a-preserved : goal.loop-a-preserved
loop-a-preserved c =
    one_line (map attribute_definition c.args.schema.now.attributes) c.loop-a.a c.in_ok-definition.definition c.args.out.now.items c.loop-a.out.items c.push_line.new.out.items c.in_ok-definition.ensures
    c.loop-a.invariant c.in_ok-push_line.ensures.ok
