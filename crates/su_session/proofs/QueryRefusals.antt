-- A query that isn't made ready and has a line is refused for a cause of its own: one of its names, or one of its terms.
use Rattle.std.proofs.Common.{◌≡◌, ◌⊎◌, ℕ, List, inl, inr, subst}
use Rattle.std.specs.Ordering.{nat_cmp}
use Rattle.std.specs.FinSet.{FinSet}
use Rattle.su_schema.specs.SchemaValue.{SchemaValue}
use Rattle.su_query.specs.declared.statements.Query.{Query as AQuery}
use Rattle.su_query.specs.declared.resolving.Resolved.{Resolved}
use Rattle.su_query.specs.declared.faults.QueryFault.{QueryFault}
use Rattle.su_query.specs.declared.faults.QueryFault.TheVariants as query
use Rattle.su_query.specs.Lookup.{IsKnownQuery, IsQueryRefusal}
use Rattle.su_query.specs.NumberedConditions.{resolved_of}
use Rattle.su_steps.specs.declared.faults.StepFault.{StepFault}
use Rattle.su_steps.specs.declared.faults.StepFault.TheVariants as step
use Rattle.su_steps.specs.Refusals.{IsStepRefusal}
use Rattle.su_show.specs.declared.statement_refusal.Refusal.TheVariants.{Query, Steps}
use Rattle.su_show.specs.RefusalLines.{IsRefusalLine}
use Rattle.su_show.proofs.RefusalLines.{query_told, step_told}
use Rattle.su_session.specs.Retrievals.{IsRefusalOf}

module _ (schema : SchemaValue) (maximal : List (FinSet nat_cmp)) (q : AQuery) (line : List ℕ) where
  pub refused_names : (fault : QueryFault) → (fault ≡ query.NoMemory) ⊎ IsQueryRefusal schema q fault → IsRefusalLine schema (Query fault) line → IsRefusalOf schema maximal q (Query fault)
  refused_names fault (inl memory) told = absurd (query_told schema line fault told memory)
  refused_names fault (inr refused) told = refused

  pub refused_terms : (r : Resolved) (fault : StepFault) → r ≡ resolved_of schema q → IsKnownQuery schema q → (fault ≡ step.NoMemory) ⊎ IsStepRefusal schema maximal r fault → IsRefusalLine schema (Steps fault) line → IsRefusalOf schema maximal q (Steps fault)
  refused_terms r fault is known (inl memory) told = absurd (step_told schema line fault told memory)
  refused_terms r fault is known (inr refused) told = (known, subst (λ (r : Resolved). IsStepRefusal schema maximal r fault) is refused)
