-- What is written are the lines of the relations so far, each by its definition.
use Rattle.std.proofs.Common.{map}
use Rattle.su_ddl.specs.ShownDefinitions.{relation_definition}
use Rattle.su_ddl.proofs.Lines.{one_line}
use Rattle.su_ddl.proofs.showing.push_relations.Goals as goal

pub loop-r-preserved : goal.loop-r-preserved
loop-r-preserved c =
    one_line (map relation_definition c.args.schema.now.relations) c.loop-r.r c.in_ok-definition.definition c.args.out.now.items c.loop-r.out.items c.push_line.new.out.items c.in_ok-definition.ensures
    c.loop-r.invariant c.in_ok-push_line.ensures.ok
