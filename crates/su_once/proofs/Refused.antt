-- A query that has no terms is refused for one cause.
use Rattle.std.proofs.Common.{◌≡◌, ◌≤◌, ℕ, List, slice_get, Some, refl, ap, sym, ◌∙◌, subst, arith}
use Rattle.std.proofs.lemmas.Option.{none-some, same_Some}
use Rattle.std.specs.Ordering.{nat_cmp}
use Rattle.std.specs.FinSet.{FinSet}
use Rattle.std.proofs.lemmas.List.Elements.{All-contains}
use Rattle.su_schema.specs.SchemaValue.{SchemaValue}
use Rattle.su_query.specs.declared.resolving.Resolved.{Resolved}
use Rattle.su_query.specs.Sets.{mentioned_with}
use Rattle.su_steps.specs.declared.faults.StepFault.{StepFault}
use Rattle.su_steps.specs.declared.faults.StepFault.TheVariants.{NotCovered, Limit, NoMemory}
use Rattle.su_steps.specs.declared.faults.StepLimit.{StepLimit}
use Rattle.su_steps.specs.declared.faults.StepLimit.TheVariants.{Disjuncts, Rows, Terms}
use Rattle.su_steps.specs.Choices.{choices}
use Rattle.su_steps.specs.Refusals.{IsStepRefusal, IsAccepted}
use Rattle.su_steps.specs.Limits.{row_count, HasFewRows, HasManyRows, IsLimitPassed}
use Rattle.su_once.specs.Terms.{OneStepRefusal, RefusedOrAccepted}

module _ (schema : SchemaValue) (maximal : List (FinSet nat_cmp)) (q : Resolved) where
  many_or_few : HasManyRows schema maximal q → HasFewRows schema maximal q → ⊥
  many_or_few (choice, there, many) few =
      let upto : row_count schema maximal choice ≤ 64 = All-contains (λ c. row_count schema maximal c ≤ 64) (choices schema maximal q) choice few there in
      absurd (omega (arith, many, upto))

  one_limit : (x y : StepLimit) → IsLimitPassed schema maximal q x → IsLimitPassed schema maximal q y → x ≡ y
  one_limit Disjuncts Disjuncts h k = refl
  one_limit Disjuncts Rows h k = absurd (let few = k.0 in omega (arith, h, few))
  one_limit Disjuncts Terms h k = absurd (let few = k.0 in omega (arith, h, few))
  one_limit Rows Disjuncts h k = absurd (let few = h.0 in omega (arith, k, few))
  one_limit Rows Rows h k = refl
  one_limit Rows Terms h k = absurd (many_or_few h.1 k.1)
  one_limit Terms Disjuncts h k = absurd (let few = h.0 in omega (arith, k, few))
  one_limit Terms Rows h k = absurd (many_or_few k.1 h.1)
  one_limit Terms Terms h k = refl

  not_passed : (x : StepLimit) → IsLimitPassed schema maximal q x → IsAccepted schema maximal q → ⊥
  not_passed Disjuncts h ok = absurd (let few = ok.few_disjuncts in omega (arith, h, few))
  not_passed Rows h ok = many_or_few h.1 ok.few_rows
  not_passed Terms h ok = absurd (let many = h.2 in let few = ok.few_terms in omega (arith, many, few))

  one_cause : (x y : StepFault) → IsStepRefusal schema maximal q x → IsStepRefusal schema maximal q y → x ≡ y
  one_cause (NotCovered variable mentioned) (NotCovered other also) (v, first, (named, is)) (w, too, (called, same)) =
      let at : v ≡ w = same_Some v w (sym first ∙ too) in
      let who : variable ≡ other = same_Some variable other (sym named ∙ (subst (λ (k : ℕ). slice_get q.variables k ≡ Some other) (sym at) called)) in
      let with : mentioned ≡ also = is ∙ ap (λ k. mentioned_with q.places k) at ∙ sym same in
      λ i. NotCovered (who i) (with i)
  one_cause (NotCovered variable mentioned) (Limit limit) h k = absurd (none-some h.0 (sym k.0 ∙ h.1))
  one_cause (Limit limit) (NotCovered variable mentioned) h k = absurd (none-some k.0 (sym h.0 ∙ k.1))
  one_cause (Limit limit) (Limit other) h k = ap Limit (one_limit limit other h.1 k.1)
  one_cause NoMemory y h k = absurd h
  one_cause (NotCovered variable mentioned) NoMemory h k = absurd k
  one_cause (Limit limit) NoMemory h k = absurd k

  refused_or_accepted : (x : StepFault) → IsStepRefusal schema maximal q x → IsAccepted schema maximal q → ⊥
  refused_or_accepted (NotCovered variable mentioned) h ok = none-some h.0 (sym ok.covered ∙ h.1)
  refused_or_accepted (Limit limit) h ok = not_passed limit h.1 ok
  refused_or_accepted NoMemory h ok = h

pub one_step_refusal : OneStepRefusal
one_step_refusal schema maximal q why other h k = one_cause schema maximal q why other h k

pub not_refused : RefusedOrAccepted
not_refused schema maximal q why h ok = refused_or_accepted schema maximal q why h ok
