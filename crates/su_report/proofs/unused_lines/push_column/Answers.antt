-- The line, and below it an object over the relation with the column.
use Rattle.std.proofs.Common.{◌++◌, ◌∙◌, ◌∷◌, [], codes, ap}
use Rattle.std.proofs.lemmas.Result.{on_ok_weaker}
use Rattle.su_schema.specs.Entries.{relation_names}
use Rattle.su_ddl.specs.ShownDefinitions.{name_at}
use Rattle.su_report.specs.Advice.{object_over, advice}
use Rattle.su_report.specs.UnusedLines.{column_name}
use Rattle.su_report.proofs.Texts.{six_added}
use Rattle.su_report.proofs.unused_lines.push_column.Goals as goal

pub returns : goal.returns
returns c =
    let schema = c.args.schema.now in
    let relation = name_at (relation_names schema) c.args.r in
    let name = column_name schema c.args.r c.args.c in
    on_ok_weaker c.push_advice.result
    (λ e. six_added c.args.out.now.items (codes "fault column ") name (codes " of ") relation (codes " has no attribute\n") (advice (object_over relation (name ∷ [])))
    c.push.new.out.items c.push-2.new.out.items c.push-3.new.out.items c.push-4.new.out.items c.push-5.new.out.items c.push_advice.new.out.items c.in_ok-push.ensures
    (c.in_ok-push-2.ensures ∙ ap (λ t. c.push.new.out.items ++ t) c.column_name-name.ensures) c.in_ok-push-3.ensures (c.in_ok-push-4.ensures ∙ ap (λ t. c.push-3.new.out.items ++ t) c.relation_name-relation.ensures) c.in_ok-push-5.ensures
    (e ∙ ap (λ d. c.push-5.new.out.items ++ advice d) (c.in_ok-object_over_one.ensures ∙ ap (λ n. object_over n (c.column_name-name.result.now ∷ [])) c.relation_name-relation.ensures ∙ ap (λ n. object_over relation (n ∷ [])) c.column_name-name.ensures)))
    c.push_advice.ensures
