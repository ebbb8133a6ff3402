-- The selects so far are those of the numbers so far, one each, and the term at the next number is the one that its select is made of.
use Rattle.std.proofs.Common.{◌∙◌, ℕ, [], subst, get_or}
use Rattle.std.proofs.lemmas.List.{get_or_default}
use Rattle.su_base.proofs.Items.{AllZip-more}
use Rattle.su_min.specs.Kept.{Minimised}
use Rattle.su_min.specs.Reduction.{term_at}
use Rattle.su_sql.specs.TermSelects.{IsSelectOf}
use Rattle.su_sql.proofs.making.selects_for.Goals as goal

pub loop-k-preserved : goal.loop-k-preserved
loop-k-preserved c =
    let schema = c.args.db.now.schema in
    let minimals = c.args.minimals.now in
    let kept = c.args.kept.now in
    let i = c.loop-k.k-index in
    let k : ℕ = get_or kept i 0 in
    let none : Minimised = record { tableau = record { width = 0; rows = []; head = []; outputs = 0; operators = [] }; mask = 0; fold = [] } in
    let is : IsSelectOf schema (term_at minimals k) c.in_ok-select.select =
    subst (λ (m : Minimised). IsSelectOf schema m c.in_ok-select.select) (c.index-minimals-k.is ∙ get_or_default minimals k c.index-minimals-k.result none (c.requires.within i 0 c.loop-k-test.true)) c.in_ok-select.ensures in
    AllZip-more (λ k select. IsSelectOf schema (term_at minimals k) select) kept c.loop-k.selects c.push.new.self i k c.in_ok-select.select c.loop-k-test.true (get_or_default kept i 0 k c.loop-k-test.true) c.loop-k.invariant is c.in_ok-push.ensures.ok
