-- What is written are the lines of the declared sets so far, each as the names of its objects.
use Rattle.std.proofs.Common.{ap, ◌∙◌, map}
use Rattle.su_ddl.specs.ShownDefinitions.{maximal_definition}
use Rattle.su_ddl.proofs.Lines.{listed_at, one_line}
use Rattle.su_ddl.proofs.showing.push_declared.Goals as goal

pub loop-set-preserved : goal.loop-set-preserved
loop-set-preserved c =
    let schema = c.args.schema.now in
    let at = listed_at (maximal_definition schema) schema.declared c.declared-set-items.result.now c.loop-set.set-index c.set-item.result c.in_ok-definition.definition c.declared-set-items.ensures c.loop-set-test.true
    (c.in_ok-definition.ensures ∙ ap (maximal_definition schema) c.set-item.is) in
    one_line (map (maximal_definition schema) schema.declared) c.loop-set.set-index c.in_ok-definition.definition c.args.out.now.items c.loop-set.out.items c.push_line.new.out.items at
    c.loop-set.invariant c.in_ok-push_line.ensures.ok
