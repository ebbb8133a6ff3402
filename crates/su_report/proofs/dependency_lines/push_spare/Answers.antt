-- The line, and below it the dependency without the attribute.
use Rattle.std.proofs.Common.{◌++◌, ◌∙◌, codes, ap}
use Rattle.std.proofs.lemmas.Result.{on_ok_weaker}
use Rattle.su_schema.specs.Entries.{attribute_names}
use Rattle.su_ddl.specs.ShownDefinitions.{name_at, fd_definition}
use Rattle.su_show.specs.Values.{fd_text}
use Rattle.su_report.specs.Advice.{advice}
use Rattle.su_report.specs.DependencyLines.{shortened}
use Rattle.su_report.proofs.Texts.{six_added}
use Rattle.su_report.proofs.dependency_lines.push_spare.Goals as goal

pub returns : goal.returns
returns c =
    let schema = c.args.schema.now in
    let fd = c.args.fd.now in
    let a = c.args.a in
    on_ok_weaker c.push_advice.result
    (λ e. six_added c.args.out.now.items (codes "note fd ") (fd_text schema fd) (codes " follows without ") (name_at (attribute_names schema) a) (codes "\n") (advice (fd_definition schema (shortened fd a)))
    c.push.new.out.items c.push_fd.new.out.items c.push-2.new.out.items c.push-3.new.out.items c.push-4.new.out.items c.push_advice.new.out.items c.in_ok-push.ensures c.in_ok-push_fd.ensures c.in_ok-push-2.ensures
    (c.in_ok-push-3.ensures ∙ ap (λ t. c.push-2.new.out.items ++ t) c.attribute_name.ensures) c.in_ok-push-4.ensures
    (e ∙ ap (λ d. c.push-4.new.out.items ++ advice d) (c.in_ok-shorter.ensures ∙ ap (fd_definition schema) c.shortened.ensures)))
    c.push_advice.ensures
