-- All values are copied in the end, and putting them in order, each once, keeps the members.
use Rattle.std.proofs.Common.{◌≡◌, ◌∙◌, List, Contains, subst, sym, arith}
use Rattle.std.proofs.lemmas.List.{take_all}
use Rattle.su_base.specs.declared.values.Value.{Value}
use Rattle.su_chase.proofs.candidates.sorted_copies.Goals as goal

pub returns-clause-members : goal.returns-clause-members
returns-clause-members c = λ v.
    let values = c.args.values.now in
    let copied : c.loop-value.copies ≡ values = c.loop-value.invariant ∙ take_all c.loop-value.value-index values (let e = c.loop-value-test.false in omega arith) in
    let same = c.sorted_values.ensures.members v in (
      λ h. subst (λ (xs : List Value). Contains xs v) copied (same.0 h),
      λ h. same.1 (subst (λ (xs : List Value). Contains xs v) (sym copied) h),
    )
