-- The line, and below it a maximal object of the object and another.
use Rattle.std.proofs.Common.{◌++◌, ◌∙◌, codes, ap}
use Rattle.std.proofs.lemmas.Result.{on_ok_weaker}
use Rattle.su_schema.specs.Entries.{object_names}
use Rattle.su_ddl.specs.ShownDefinitions.{name_at}
use Rattle.su_report.specs.Advice.{joined, advice}
use Rattle.su_report.proofs.Texts.{four_added}
use Rattle.su_report.proofs.unused_lines.push_alone.Goals as goal

pub returns : goal.returns
returns c =
    let name = name_at (object_names c.args.schema.now) c.args.o in
    on_ok_weaker c.push_advice.result
    (λ e. four_added c.args.out.now.items (codes "note object ") name (codes " is joined with no other\n") (advice (joined name)) c.push.new.out.items c.push-2.new.out.items c.push-3.new.out.items c.push_advice.new.out.items c.in_ok-push.ensures
    (c.in_ok-push-2.ensures ∙ ap (λ t. c.push.new.out.items ++ t) c.object_name-name.ensures) c.in_ok-push-3.ensures (e ∙ ap (λ d. c.push-3.new.out.items ++ advice d) (c.in_ok-joined.ensures ∙ ap joined c.object_name-name.ensures)))
    c.push_advice.ensures
