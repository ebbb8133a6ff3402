-- How two queries are compared.
-- cause of a refusal: the first of what stands against the names of the first query, against those of the second, a comparison that asks for more than an equality, outputs that differ, and what stands against the terms of the first, against those of the second
use Rattle.std.specs.Prelude.{◌≡◌, ◌⊎◌, List}
use Rattle.std.specs.Ordering.{nat_cmp}
use Rattle.std.specs.FinSet.{FinSet}
use Rattle.su_schema.specs.SchemaValue.{SchemaValue}
use Rattle.su_query.specs.declared.statements.Query.{Query as AQuery}
use Rattle.su_query.specs.declared.resolving.Resolved.{Resolved}
use Rattle.su_query.specs.NumberedConditions.{resolved_of}
use Rattle.su_maxobj.specs.MaximalObjects.{AreMaximalObjects}
use Rattle.su_steps.specs.declared.faults.StepFault.{StepFault}
use Rattle.su_steps.specs.declared.results.Term.{Term}
use Rattle.su_steps.specs.Refusals.{IsStepRefusal, IsAccepted}
use Rattle.su_compare.specs.Within.{AreOf}
use Rattle.su_compare.specs.Verdict.{IsVerdict}
use Rattle.su_compare.specs.declared.verdicts.Verdict.{Verdict}
use Rattle.su_compare.specs.Texts.{verdicts_text}
use Rattle.su_state.specs.DatabaseValue.{DatabaseValue}
use Rattle.su_show.specs.declared.statement_refusal.Refusal.{Refusal}
use Rattle.su_show.specs.declared.statement_refusal.Refusal.TheVariants.{Steps}
use Rattle.su_session.specs.declared.replies.Reply.{Reply}
use Rattle.su_session.specs.Outcomes.{Accepts, Refuses}
use Rattle.su_session.specs.ComparableQueries.{AreOfOneForm, IsFormRefusal}

-- why one of two queries has no terms: the first cause
abbrev pub IsTermsRefusal : SchemaValue → List (FinSet nat_cmp) → Resolved → Resolved → StepFault → Type 0
IsTermsRefusal schema maximal p q fault = IsStepRefusal schema maximal p fault ⊎ (IsAccepted schema maximal p × IsStepRefusal schema maximal q fault)

-- whether the first is within the second, and whether the second is within the first, by the terms of both
pub record ShowsVerdicts (schema : SchemaValue) (maximal : List (FinSet nat_cmp)) (p q : Resolved) (reply : Reply) : Type 0 where
  pub first : List Term
  pub second : List Term
  pub first_are : AreOf schema maximal p first
  pub second_are : AreOf schema maximal q second
  pub forth : Verdict
  pub back : Verdict
  pub forth_is : IsVerdict schema first second forth
  pub back_is : IsVerdict schema second first back
  pub text : Accepts (verdicts_text schema forth back) reply

-- refused where one has no terms, else both verdicts are shown
abbrev pub ComparesTerms : DatabaseValue → Resolved → Resolved → Reply → DatabaseValue → Type 0
ComparesTerms db p q reply new = (maximal : List (FinSet nat_cmp)) × AreMaximalObjects db.schema maximal
    × (((fault : StepFault) × IsTermsRefusal db.schema maximal p q fault × Refuses db (Steps fault) reply new)
    ⊎ (IsAccepted db.schema maximal p × IsAccepted db.schema maximal q × ShowsVerdicts db.schema maximal p q reply × (new ≡ db)))

-- refused where the two are of no one form, else compared by their terms
abbrev pub Compares : DatabaseValue → AQuery → AQuery → Reply → DatabaseValue → Type 0
Compares db first second reply new =
    ((why : Refusal) × IsFormRefusal db.schema first second why × Refuses db why reply new)
    ⊎ (AreOfOneForm db.schema first second × ComparesTerms db (resolved_of db.schema first) (resolved_of db.schema second) reply new)
