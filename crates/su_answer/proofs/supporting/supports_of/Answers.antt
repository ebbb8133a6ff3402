-- The supports so far are those of the numbers so far, one each; the term at the next number is within the list, so its support is of that term.
use Rattle.std.proofs.Common.{◌≡◌, ◌∙◌, ℕ, [], subst, get_or}
use Rattle.std.proofs.lemmas.List.{get_or_default}
use Rattle.su_base.proofs.Items.{AllZip-more}
use Rattle.su_reduce.specs.declared.support.Support.{Support}
use Rattle.su_min.specs.Kept.{Minimised}
use Rattle.su_min.specs.Reduction.{term_at}
use Rattle.su_answer.specs.Support.{IsSupport}
use Rattle.su_answer.proofs.supporting.supports_of.Goals as goal

pub loop-k-preserved : goal.loop-k-preserved
loop-k-preserved c =
    let db = c.args.db.now in
    let minimals = c.args.minimals.now in
    let kept = c.args.kept.now in
    let i = c.loop-k.k-index in
    let k : ℕ = get_or kept i 0 in
    let one : Support = c.in_ok-one.one in
    let none : Minimised = record { tableau = record { width = 0; rows = []; head = []; outputs = 0; operators = [] }; mask = 0; fold = [] } in
    let is : IsSupport db (term_at minimals k) one =
    subst (λ (m : Minimised). IsSupport db m one) (c.index-minimals-k.is ∙ get_or_default minimals k c.index-minimals-k.result none (c.requires.within i 0 c.loop-k-test.true)) c.in_ok-one.ensures.support in
    AllZip-more (λ k (s : Support). (s.term ≡ k) × IsSupport db (term_at minimals k) s) kept c.loop-k.supports c.push.new.self i k one c.loop-k-test.true (get_or_default kept i 0 k c.loop-k-test.true) c.loop-k.invariant (c.in_ok-one.ensures.term, is) c.in_ok-push.ensures.ok
