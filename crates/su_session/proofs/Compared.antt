-- The reply to a comparison, by how it ends.
use Rattle.std.proofs.Common.{◌≡◌, List, refl, ap, sym, ◌∙◌, subst, inl, inr}
use Rattle.std.specs.Prelude.{IsTrue}
use Rattle.std.specs.Ordering.{nat_cmp}
use Rattle.std.specs.FinSet.{FinSet}
use Rattle.su_schema.specs.SchemaValue.{SchemaValue}
use Rattle.su_schema.specs.Valid.{IsValid}
use Rattle.su_query.specs.declared.statements.Query.{Query as AQuery}
use Rattle.su_query.specs.declared.resolving.Resolved.{Resolved}
use Rattle.su_query.specs.NumberedConditions.{resolved_of}
use Rattle.su_maxobj.specs.MaximalObjects.{AreMaximalObjects}
use Rattle.su_steps.specs.declared.faults.StepFault.{StepFault}
use Rattle.su_steps.specs.declared.results.Term.{Term}
use Rattle.su_steps.specs.Refusals.{IsAccepted}
use Rattle.su_compare.specs.Comparable.{AreComparable}
use Rattle.su_compare.specs.Laws.{TermsAreComparable}
use Rattle.su_compare.specs.Equalities.{has_only_equalities}
use Rattle.su_compare.specs.Outputs.{output_kinds}
use Rattle.su_compare.specs.Within.{AreOf}
use Rattle.su_compare.specs.Verdict.{IsVerdict}
use Rattle.su_compare.specs.declared.verdicts.Verdict.{Verdict}
use Rattle.su_compare.specs.Texts.{verdicts_text}
use Rattle.su_state.specs.DatabaseValue.{DatabaseValue}
use Rattle.su_show.specs.declared.statement_refusal.Refusal.{Refusal}
use Rattle.su_show.specs.declared.statement_refusal.Refusal.TheVariants.{Steps}
use Rattle.su_session.specs.declared.replies.Reply.{Reply}
use Rattle.su_session.specs.Outcomes.{Accepts, Refuses}
use Rattle.su_session.specs.ComparableQueries.{AreOfOneForm, IsFormRefusal}
use Rattle.su_session.specs.Comparisons.{IsTermsRefusal, Compares}

-- the terms of one query, which is accepted
abbrev pub AreTermsOf : SchemaValue → List (FinSet nat_cmp) → Resolved → List Term → Type 0
AreTermsOf schema maximal p terms = AreOf schema maximal p terms × IsAccepted schema maximal p

pub comparable : TermsAreComparable → (schema : SchemaValue) (maximal : List (FinSet nat_cmp)) (first second : AQuery) (p q : Resolved) (firsts seconds : List Term) → IsValid schema → p ≡ resolved_of schema first → q ≡ resolved_of schema second → AreOfOneForm schema first second
    → AreTermsOf schema maximal p firsts → AreTermsOf schema maximal q seconds → AreComparable schema firsts seconds × AreComparable schema seconds firsts
comparable law schema maximal first second p q firsts seconds valid p_is q_is form of_p of_q =
    let p_asks : IsTrue (has_only_equalities p.cond) = subst (λ (r : Resolved). IsTrue (has_only_equalities r.cond)) (sym p_is) form.equalities.0 in
    let q_asks : IsTrue (has_only_equalities q.cond) = subst (λ (r : Resolved). IsTrue (has_only_equalities r.cond)) (sym q_is) form.equalities.1 in
    let kinds : output_kinds schema p ≡ output_kinds schema q = ap (output_kinds schema) p_is ∙ form.outputs ∙ sym (ap (output_kinds schema) q_is) in (
      law schema maximal p q firsts seconds valid of_p.0 of_q.0 of_p.1 of_q.1 p_asks q_asks kinds,
      law schema maximal q p seconds firsts valid of_q.0 of_p.0 of_q.1 of_p.1 q_asks p_asks (sym kinds),
    )

module _ (db : DatabaseValue) (first second : AQuery) (reply : Reply) (schema : SchemaValue) (same : schema ≡ db.schema) where
  pub refused_form : (why : Refusal) → IsFormRefusal schema first second why → Refuses db why reply db → Compares db first second reply db
  refused_form why h refuses = inl (why, subst (λ (s : SchemaValue). IsFormRefusal s first second why) same h, refuses)

  module _ (maximal : List (FinSet nat_cmp)) (are : AreMaximalObjects db.schema maximal) (p q : Resolved) (p_is : p ≡ resolved_of schema first) (q_is : q ≡ resolved_of schema second) (form : AreOfOneForm schema first second) where
    first_is : p ≡ resolved_of db.schema first
    first_is = p_is ∙ ap (λ (s : SchemaValue). resolved_of s first) same

    second_is : q ≡ resolved_of db.schema second
    second_is = q_is ∙ ap (λ (s : SchemaValue). resolved_of s second) same

    form_here : AreOfOneForm db.schema first second
    form_here = subst (λ (s : SchemaValue). AreOfOneForm s first second) same form

    pub refused_terms : (fault : StepFault) → IsTermsRefusal schema maximal p q fault → Refuses db (Steps fault) reply db → Compares db first second reply db
    refused_terms fault h refuses =
        let here : IsTermsRefusal db.schema maximal p q fault = subst (λ (s : SchemaValue). IsTermsRefusal s maximal p q fault) same h in
        let left : IsTermsRefusal db.schema maximal (resolved_of db.schema first) q fault = subst (λ (r : Resolved). IsTermsRefusal db.schema maximal r q fault) first_is here in
        let both : IsTermsRefusal db.schema maximal (resolved_of db.schema first) (resolved_of db.schema second) fault = subst (λ (r : Resolved). IsTermsRefusal db.schema maximal (resolved_of db.schema first) r fault) second_is left in
        inr (form_here, (maximal, are, inl (fault, both, refuses)))

    pub compared : (firsts seconds : List Term) (forth back : Verdict) → AreTermsOf schema maximal p firsts → AreTermsOf schema maximal q seconds → IsVerdict schema firsts seconds forth → IsVerdict schema seconds firsts back
        → Accepts (verdicts_text schema forth back) reply → Compares db first second reply db
    compared firsts seconds forth back of_p of_q forth_is back_is accepts =
        let left : AreTermsOf db.schema maximal (resolved_of db.schema first) firsts = subst (λ (r : Resolved). AreTermsOf db.schema maximal r firsts) first_is (subst (λ (s : SchemaValue). AreTermsOf s maximal p firsts) same of_p) in
        let right : AreTermsOf db.schema maximal (resolved_of db.schema second) seconds = subst (λ (r : Resolved). AreTermsOf db.schema maximal r seconds) second_is (subst (λ (s : SchemaValue). AreTermsOf s maximal q seconds) same of_q) in
        inr (
          form_here,
          (
            maximal,
            are,
            inr (
              left.1,
              right.1,
              record {
                first = firsts;
                second = seconds;
                first_are = left.0;
                second_are = right.0;
                forth = forth;
                back = back;
                forth_is = subst (λ (s : SchemaValue). IsVerdict s firsts seconds forth) same forth_is;
                back_is = subst (λ (s : SchemaValue). IsVerdict s seconds firsts back) same back_is;
                text = subst (λ (s : SchemaValue). Accepts (verdicts_text s forth back) reply) same accepts;
              },
              refl,
            ),
          ),
        )
