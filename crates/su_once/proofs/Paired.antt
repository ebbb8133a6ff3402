-- Two queries are compared in one way, or refused for one cause.
use Rattle.std.proofs.Common.{◌≡◌, List, All, refl, ap, sym, ◌∙◌, subst, inl, inr}
use Rattle.std.specs.Ordering.{nat_cmp}
use Rattle.std.specs.FinSet.{FinSet}
use Rattle.su_tableau.specs.Tableaux as tableaux
use Rattle.su_schema.specs.SchemaValue.{SchemaValue}
use Rattle.su_schema.specs.Valid.{IsValid}
use Rattle.su_query.specs.declared.faults.QueryFault.{QueryFault}
use Rattle.su_query.specs.declared.statements.Query.{Query as AQuery}
use Rattle.su_query.specs.declared.resolving.Resolved.{Resolved}
use Rattle.su_query.specs.Lookup.{IsKnownQuery, IsQueryRefusal}
use Rattle.su_query.specs.NumberedConditions.{resolved_of}
use Rattle.su_steps.specs.declared.faults.StepFault.{StepFault}
use Rattle.su_steps.specs.declared.results.Term.{Term}
use Rattle.su_steps.specs.Refusals.{IsAccepted}
use Rattle.su_steps.proofs.Validity.{all_valid}
use Rattle.su_compare.specs.Within.{AreOf}
use Rattle.su_compare.specs.Verdict.{IsVerdict}
use Rattle.su_compare.specs.Texts.{verdicts_text}
use Rattle.su_show.specs.declared.statement_refusal.Refusal.{Refusal}
use Rattle.su_show.specs.declared.statement_refusal.Refusal.TheVariants as refusal
use Rattle.su_session.specs.declared.replies.Reply.{Reply}
use Rattle.su_session.specs.ComparableQueries.{AreKnown, AskEqualities, OutputsAgree, AreOfOneForm, IsFormRefusal}
use Rattle.su_session.specs.Comparisons.{IsTermsRefusal, ShowsVerdicts}
use Rattle.su_once.proofs.Compared.{one_verdict}
use Rattle.su_once.proofs.Named.{one_list_of_terms}
use Rattle.su_once.proofs.OneOutcome.{one_query_refusal, query_not_refused}
use Rattle.su_once.proofs.Refused.{one_step_refusal, not_refused}

-- ---- of one form

data Cause (schema : SchemaValue) (first second : AQuery) (why : Refusal) : Type 0 where
  of_first : (fault : QueryFault) → IsQueryRefusal schema first fault → why ≡ refusal.Query fault → Cause schema first second why
  of_second : (fault : QueryFault) → IsKnownQuery schema first → IsQueryRefusal schema second fault → why ≡ refusal.Query fault → Cause schema first second why
  asks_more : AreKnown schema first second → (¬ AskEqualities (resolved_of schema first) (resolved_of schema second)) → why ≡ refusal.OnlyEqual → Cause schema first second why
  differ : AreKnown schema first second → AskEqualities (resolved_of schema first) (resolved_of schema second) → (¬ OutputsAgree schema (resolved_of schema first) (resolved_of schema second)) → why ≡ refusal.OutputsDiffer → Cause schema first second why

module _ (schema : SchemaValue) (first second : AQuery) where
  cause_of : (why : Refusal) → IsFormRefusal schema first second why → Cause schema first second why
  cause_of (refusal.Query fault) (inl h) = of_first fault h refl
  cause_of (refusal.Query fault) (inr (known, h)) = of_second fault known h refl
  cause_of refusal.OnlyEqual (known, more) = asks_more known more refl
  cause_of refusal.OutputsDiffer (known, asks, apart) = differ known asks apart refl
  cause_of (refusal.Steps fault) h = absurd h
  cause_of (refusal.State fault) h = absurd h
  cause_of (refusal.Record fault) h = absurd h
  cause_of (refusal.Csv r fault) h = absurd h
  cause_of refusal.Answer h = absurd h
  cause_of refusal.Nodes h = absurd h
  cause_of (refusal.Define fault) h = absurd h
  cause_of refusal.WindowLimit h = absurd h
  cause_of (refusal.Inconsistent less greater) h = absurd h

  one_cause : (why other : Refusal) → Cause schema first second why → Cause schema first second other → why ≡ other
  one_cause why other (of_first f h e) (of_first g k e') = e ∙ ap refusal.Query (one_query_refusal schema first f g h k) ∙ sym e'
  one_cause why other (of_first f h e) (of_second g known k e') = absurd (query_not_refused schema first f h known)
  one_cause why other (of_first f h e) (asks_more known k e') = absurd (query_not_refused schema first f h known.0)
  one_cause why other (of_first f h e) (differ known asks k e') = absurd (query_not_refused schema first f h known.0)
  one_cause why other (of_second f known h e) (of_first g k e') = absurd (query_not_refused schema first g k known)
  one_cause why other (of_second f known h e) (of_second g also k e') = e ∙ ap refusal.Query (one_query_refusal schema second f g h k) ∙ sym e'
  one_cause why other (of_second f also h e) (asks_more known k e') = absurd (query_not_refused schema second f h known.1)
  one_cause why other (of_second f also h e) (differ known asks k e') = absurd (query_not_refused schema second f h known.1)
  one_cause why other (asks_more known h e) (of_first g k e') = absurd (query_not_refused schema first g k known.0)
  one_cause why other (asks_more known h e) (of_second g also k e') = absurd (query_not_refused schema second g k known.1)
  one_cause why other (asks_more known h e) (asks_more also k e') = e ∙ sym e'
  one_cause why other (asks_more known h e) (differ also asks k e') = absurd (h asks)
  one_cause why other (differ known asks h e) (of_first g k e') = absurd (query_not_refused schema first g k known.0)
  one_cause why other (differ known asks h e) (of_second g also k e') = absurd (query_not_refused schema second g k known.1)
  one_cause why other (differ known asks h e) (asks_more also k e') = absurd (k asks)
  one_cause why other (differ known asks h e) (differ also too k e') = e ∙ sym e'

  pub one_form_refusal : (why other : Refusal) → IsFormRefusal schema first second why → IsFormRefusal schema first second other → why ≡ other
  one_form_refusal why other h k = one_cause why other (cause_of why h) (cause_of other k)

  refused_by : (why : Refusal) → Cause schema first second why → AreOfOneForm schema first second → ⊥
  refused_by why (of_first f h e) form = query_not_refused schema first f h form.known.0
  refused_by why (of_second f also h e) form = query_not_refused schema second f h form.known.1
  refused_by why (asks_more known h e) form = h form.equalities
  refused_by why (differ known asks h e) form = h form.outputs

  pub refused_or_formed : (why : Refusal) → IsFormRefusal schema first second why → AreOfOneForm schema first second → ⊥
  refused_or_formed why h form = refused_by why (cause_of why h) form

-- ---- their terms

module _ (schema : SchemaValue) (maximal : List (FinSet nat_cmp)) (p q : Resolved) where
  pub one_terms_refusal : (f g : StepFault) → IsTermsRefusal schema maximal p q f → IsTermsRefusal schema maximal p q g → f ≡ g
  one_terms_refusal f g (inl h) (inl k) = one_step_refusal schema maximal p f g h k
  one_terms_refusal f g (inl h) (inr (accepted, k)) = absurd (not_refused schema maximal p f h accepted)
  one_terms_refusal f g (inr (accepted, h)) (inl k) = absurd (not_refused schema maximal p g k accepted)
  one_terms_refusal f g (inr (accepted, h)) (inr (also, k)) = one_step_refusal schema maximal q f g h k

  pub refused_or_accepted : (f : StepFault) → IsTermsRefusal schema maximal p q f → IsAccepted schema maximal p → IsAccepted schema maximal q → ⊥
  refused_or_accepted f (inl h) first second = not_refused schema maximal p f h first
  refused_or_accepted f (inr (accepted, h)) first second = not_refused schema maximal q f h second

  module _ (valid : IsValid schema) where
    valid_terms : (r : Resolved) (terms : List Term) → AreOf schema maximal r terms → All (λ (t : Term). tableaux.IsValid t.tableau) terms
    valid_terms r terms are = λ k d low. all_valid schema maximal r valid are.resolved terms are.terms_are k d low

    pub one_verdicts_text : (r s : Reply) (x : ShowsVerdicts schema maximal p q r) (y : ShowsVerdicts schema maximal p q s) → verdicts_text schema x.forth x.back ≡ verdicts_text schema y.forth y.back
    one_verdicts_text r s x y =
        let first : y.first ≡ x.first = one_list_of_terms schema maximal p y.first x.first y.first_are.terms_are x.first_are.terms_are in
        let second : y.second ≡ x.second = one_list_of_terms schema maximal q y.second x.second y.second_are.terms_are x.second_are.terms_are in
        let forth_is : IsVerdict schema x.first x.second y.forth = subst (λ (ts : List Term). IsVerdict schema ts x.second y.forth) first (subst (λ (ts : List Term). IsVerdict schema y.first ts y.forth) second y.forth_is) in
        let back_is : IsVerdict schema x.second x.first y.back = subst (λ (ts : List Term). IsVerdict schema ts x.first y.back) second (subst (λ (ts : List Term). IsVerdict schema y.second ts y.back) first y.back_is) in
        let forth : x.forth ≡ y.forth = one_verdict schema x.first x.second x.forth y.forth (valid_terms p x.first x.first_are) x.forth_is forth_is in
        let back : x.back ≡ y.back = one_verdict schema x.second x.first x.back y.back (valid_terms q x.second x.second_are) x.back_is back_is in
        λ i. verdicts_text schema (forth i) (back i)
