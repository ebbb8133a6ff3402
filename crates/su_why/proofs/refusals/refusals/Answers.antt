-- The findings so far are those of the numbers so far; the term at the next number is within the list, so its finding is of that term.
use Rattle.std.proofs.Common.{◌∙◌, ℕ, [], subst, get_or}
use Rattle.std.proofs.lemmas.List.{get_or_default}
use Rattle.su_base.proofs.Items.{AllZip-more}
use Rattle.su_why.specs.declared.refusals.WhyNot.{WhyNot}
use Rattle.su_min.specs.Kept.{Minimised}
use Rattle.su_min.specs.Reduction.{term_at}
use Rattle.su_why.specs.WhyNot.{IsWhyNot}
use Rattle.su_why.proofs.refusals.refusals.Goals as goal

pub loop-k-preserved : goal.loop-k-preserved
loop-k-preserved c =
    let db = c.args.db.now in
    let row = c.args.row.now in
    let minimals = c.args.minimals.now in
    let kept = c.args.kept.now in
    let i = c.loop-k.k-index in
    let k : ℕ = get_or kept i 0 in
    let one : WhyNot = c.in_ok-one.one in
    let none : Minimised = record { tableau = record { width = 0; rows = []; head = []; outputs = 0; operators = [] }; mask = 0; fold = [] } in
    let is : IsWhyNot db row (term_at minimals k) one =
    subst (λ (m : Minimised). IsWhyNot db row m one) (c.index-minimals-k.is ∙ get_or_default minimals k c.index-minimals-k.result none (c.requires.within i 0 c.loop-k-test.true)) c.in_ok-one.ensures in
    AllZip-more (λ k (f : WhyNot). IsWhyNot db row (term_at minimals k) f) kept c.loop-k.whys c.push.new.self i k one c.loop-k-test.true (get_or_default kept i 0 k c.loop-k-test.true) c.loop-k.invariant is c.in_ok-push.ensures.ok
