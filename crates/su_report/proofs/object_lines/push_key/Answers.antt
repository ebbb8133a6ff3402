-- The object's name, by which dependencies, and the attributes of the key.
use Rattle.std.proofs.Common.{◌++◌, ◌∙◌, codes, ap}
use Rattle.std.proofs.lemmas.Result.{on_ok_weaker}
use Rattle.su_schema.specs.Entries.{object_names}
use Rattle.su_ddl.specs.ShownDefinitions.{name_at}
use Rattle.su_report.specs.ObjectLines.{listed}
use Rattle.su_report.proofs.Texts.{six_added}
use Rattle.su_report.proofs.object_lines.push_key.Goals as goal

pub returns : goal.returns
returns c =
    let schema = c.args.schema.now in
    on_ok_weaker c.push-5.result
    (λ e. six_added c.args.out.now.items (codes "note key of ") (name_at (object_names schema) c.args.o) c.args.by.now (codes ": ") (listed schema c.args.key) (codes "\n")
    c.push.new.out.items c.push-2.new.out.items c.push-3.new.out.items c.push-4.new.out.items c.push_attributes.new.out.items c.push-5.new.out.items c.in_ok-push.ensures
    (c.in_ok-push-2.ensures ∙ ap (λ t. c.push.new.out.items ++ t) c.object_name.ensures) c.in_ok-push-3.ensures c.in_ok-push-4.ensures c.in_ok-push_attributes.ensures e)
    c.push-5.ensures
