-- Where the rows of one list are all among the other's, the other is their union: each row of either list is in it.
use Rattle.std.proofs.Common.{inl, inr, ⊎_elim, List, Contains, refl, sym, subst}
use Rattle.su_base.specs.declared.values.Value.{Value}
use Rattle.su_answer.proofs.uniting.united.Goals as goal

pub returns-then-are_among-clause-members : goal.returns-then-are_among-clause-members
returns-then-are_among-clause-members c = λ h. (
  λ has. inl has,
  λ either. ⊎_elim
      (λ (has : Contains c.args.rows h). has)
      (λ (has : Contains c.args.more h).
      subst (λ (xs : List (List Value)). Contains xs h) c.as_slice-2.ensures
      (c.if-are_among.ensures.among refl h (subst (λ (xs : List (List Value)). Contains xs h) (sym c.as_slice.ensures) has)))
      either,
)

pub returns-then-are_among-2-clause-members : goal.returns-then-are_among-2-clause-members
returns-then-are_among-2-clause-members c = λ h. (
  λ has. inr has,
  λ either. ⊎_elim
      (λ (has : Contains c.args.rows h).
      subst (λ (xs : List (List Value)). Contains xs h) c.as_slice-4.ensures
      (c.if-are_among-2.ensures.among refl h (subst (λ (xs : List (List Value)). Contains xs h) (sym c.as_slice-3.ensures) has)))
      (λ (has : Contains c.args.more h). has)
      either,
)
