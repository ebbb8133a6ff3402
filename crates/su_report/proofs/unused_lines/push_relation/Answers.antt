-- The line, and below it an object over the relation with all its columns.
use Rattle.std.proofs.Common.{◌++◌, ◌∙◌, codes, ap}
use Rattle.std.proofs.lemmas.Result.{on_ok_weaker}
use Rattle.su_schema.specs.Entries.{relation_names, column_names}
use Rattle.su_schema.specs.Known.{columns_at}
use Rattle.su_ddl.specs.ShownDefinitions.{name_at}
use Rattle.su_report.specs.Advice.{object_over, advice}
use Rattle.su_report.proofs.Texts.{four_added}
use Rattle.su_report.proofs.unused_lines.push_relation.Goals as goal

pub returns : goal.returns
returns c =
    let schema = c.args.schema.now in
    let name = name_at (relation_names schema) c.args.r in
    on_ok_weaker c.push_advice.result
    (λ e. four_added c.args.out.now.items (codes "fault relation ") name (codes " has no object\n") (advice (object_over name (column_names (columns_at schema c.args.r)))) c.push.new.out.items c.push-2.new.out.items c.push-3.new.out.items c.push_advice.new.out.items c.in_ok-push.ensures
    (c.in_ok-push-2.ensures ∙ ap (λ t. c.push.new.out.items ++ t) c.relation_name-name.ensures) c.in_ok-push-3.ensures
    (e ∙ ap (λ d. c.push-3.new.out.items ++ advice d) (c.in_ok-object_over.ensures ∙ ap (λ n. object_over n (column_names c.columns_at.result.now)) c.relation_name-name.ensures ∙ ap (λ cs. object_over name (column_names cs)) c.columns_at.ensures)))
    c.push_advice.ensures
