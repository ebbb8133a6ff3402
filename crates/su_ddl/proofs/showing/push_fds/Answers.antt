-- What is written are the lines of the dependencies so far, each as the names on its two sides.
use Rattle.std.proofs.Common.{ap, ◌∙◌, map}
use Rattle.su_ddl.specs.ShownDefinitions.{fd_definition}
use Rattle.su_ddl.proofs.Lines.{listed_at, one_line}
use Rattle.su_ddl.proofs.showing.push_fds.Goals as goal

pub loop-fd-preserved : goal.loop-fd-preserved
loop-fd-preserved c =
    let schema = c.args.schema.now in
    let at = listed_at (fd_definition schema) schema.fds c.fds-fd-items.result.now c.loop-fd.fd-index c.fd-item.result c.in_ok-definition.definition c.fds-fd-items.ensures c.loop-fd-test.true
    (c.in_ok-definition.ensures ∙ ap (fd_definition schema) c.fd-item.is) in
    one_line (map (fd_definition schema) schema.fds) c.loop-fd.fd-index c.in_ok-definition.definition c.args.out.now.items c.loop-fd.out.items c.push_line.new.out.items at
    c.loop-fd.invariant c.in_ok-push_line.ensures.ok
