-- What is written are the lines of the objects so far, each by its own definition.
use Rattle.std.proofs.Common.{map}
use Rattle.su_ddl.specs.ShownDefinitions.{object_definition}
use Rattle.su_ddl.proofs.Lines.{one_line}
use Rattle.su_ddl.proofs.showing.push_objects.Goals as goal

pub loop-o-preserved : goal.loop-o-preserved
loop-o-preserved c =
    one_line (map (object_definition c.args.schema.now) c.args.schema.now.objects) c.loop-o.o c.in_ok-definition.definition c.args.out.now.items c.loop-o.out.items c.push_line.new.out.items c.in_ok-definition.ensures
    c.loop-o.invariant c.in_ok-push_line.ensures.ok
