-- The terms so far are good, so the first fault that is met is that of the first bad term.
use Rattle.std.proofs.Common.{◌≡◌, slice_get, Some, refl, subst, ◌∙◌, arith, below_more}
use Rattle.std.specs.Option.{MatchOption}
use Rattle.std.proofs.lemmas.Option.{get_or_from_slice_get}
use Rattle.su_check.specs.declared.certificates.StatedTerm.{StatedTerm}
use Rattle.su_check.specs.Certificate.{IsGood}
use Rattle.su_check.specs.Verdict.{IsTermFault}
use Rattle.su_check.proofs.checking.verdict_of.Goals as goal

pub loop-i-preserved : goal.loop-i-preserved
loop-i-preserved c = λ j x h there.
    let kinds = c.args.kinds.now in let terms = c.args.terms.now in let i = c.loop-i.i in let t = c.index-terms-i.result in
    let good = subst (λ o. MatchOption o (IsGood kinds i t) (IsTermFault kinds i t)) c.in_default.is c.in_ok-fault.ensures in
    below_more (λ j. (x : StatedTerm) → slice_get terms j ≡ Some x → IsGood kinds j x) i (λ j h x e. c.loop-i.invariant j x h e)
    (λ x e. subst (IsGood kinds i) (c.index-terms-i.is ∙ get_or_from_slice_get terms i x t e) good) j h x there

pub returns : goal.returns
returns c = (refl, λ i x h there. let l = c.loop-i-test.false in c.loop-i.invariant i x (omega arith) there)
