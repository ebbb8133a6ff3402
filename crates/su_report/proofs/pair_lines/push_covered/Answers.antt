-- Several maximal objects have both, and so the line is told.
use Rattle.std.proofs.Common.{◌≡◌, ◌++◌, ◌∙◌, ℕ, List, [], Bool, true, length, cond, codes, ap, sym, subst, arith}
use Rattle.std.specs.Prelude.{nat_lt}
use Rattle.std.proofs.lemmas.Bool.Decides.{nat_tests}
use Rattle.std.proofs.lemmas.Result.{on_ok_weaker}
use Rattle.su_lex.specs.Wordings.{numbers_text}
use Rattle.su_schema.specs.Entries.{attribute_names}
use Rattle.su_ddl.specs.ShownDefinitions.{name_at}
use Rattle.su_report.proofs.Texts.{two_added, six_added}
use Rattle.su_report.proofs.pair_lines.push_covered.Goals as goal

pub returns : goal.returns
returns c =
    let names = attribute_names c.args.schema.now in
    let a = name_at names c.args.a in
    let b = name_at names c.args.b in
    let covers = c.args.covers.now in
    let old = c.args.out.now.items in
    let several : nat_lt 1 (length covers) ≡ true = grind (arith, nat_tests, c.if-covers-lt2.false) in
    let line : List ℕ = codes "note " ++ a ++ codes " and " ++ b ++ codes " are in maximal objects" ++ numbers_text covers in
    on_ok_weaker c.push-6.result
    (λ e. subst (λ (t : Bool). c.push-6.new.out.items ≡ old ++ cond t (line ++ codes "\n") []) (sym several)
    (two_added old line (codes "\n") c.push_numbers.new.out.items c.push-6.new.out.items
    (six_added old (codes "note ") a (codes " and ") b (codes " are in maximal objects") (numbers_text covers) c.push.new.out.items c.push-2.new.out.items c.push-3.new.out.items c.push-4.new.out.items c.push-5.new.out.items c.push_numbers.new.out.items c.in_ok-push.ensures
    (c.in_ok-push-2.ensures ∙ ap (λ t. c.push.new.out.items ++ t) c.attribute_name.ensures) c.in_ok-push-3.ensures (c.in_ok-push-4.ensures ∙ ap (λ t. c.push-3.new.out.items ++ t) c.attribute_name-2.ensures) c.in_ok-push-5.ensures c.in_ok-push_numbers.ensures)
    e))
    c.push-6.ensures
