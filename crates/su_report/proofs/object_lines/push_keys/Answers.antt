-- Where there is no list of keys, the line says so.
use Rattle.std.proofs.Common.{◌≡◌, ◌++◌, ◌∙◌, List, Option, None, codes, ap, sym, subst}
use Rattle.std.specs.Ordering.{nat_cmp}
use Rattle.std.specs.FinSet.{FinSet}
use Rattle.std.proofs.lemmas.Result.{on_ok_weaker}
use Rattle.su_schema.specs.Entries.{object_names}
use Rattle.su_ddl.specs.ShownDefinitions.{name_at}
use Rattle.su_report.specs.ObjectLines.{key_lines}
use Rattle.su_report.proofs.Texts.{four_added}
use Rattle.su_report.proofs.Told.{none_of}
use Rattle.su_report.proofs.object_lines.push_keys.Goals as goal

pub returns : goal.returns
returns c =
    let schema = c.args.schema.now in
    let none : c.args.keys.now ≡ None = none_of c.args.keys.now c.in_default.not-Some in
    on_ok_weaker c.push-4.result
    (λ e. subst (λ (keys : Option (List (FinSet nat_cmp))). c.push-4.new.out.items ≡ c.args.out.now.items ++ key_lines schema c.args.o c.args.by.now keys) (sym none)
    (four_added c.args.out.now.items (codes "note keys of ") (name_at (object_names schema) c.args.o) c.args.by.now (codes " aren't looked for: more than 12 attributes may be in one\n") c.push.new.out.items c.push-2.new.out.items c.push-3.new.out.items c.push-4.new.out.items
    c.in_ok-push.ensures (c.in_ok-push-2.ensures ∙ ap (λ t. c.push.new.out.items ++ t) c.object_name.ensures) c.in_ok-push-3.ensures e))
    c.push-4.ensures
