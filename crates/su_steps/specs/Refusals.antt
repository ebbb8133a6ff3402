-- Why a query gets no terms, in the order of the refusals.
-- covered: some maximal object has all attributes that a variable is mentioned with
use Rattle.std.specs.Prelude.{◌≡◌, ℕ, List, length, slice_get, position, Option, Some, None, ◌==◌}
use Rattle.std.specs.Ordering.{nat_cmp}
use Rattle.std.specs.FinSet.{FinSet}
use Rattle.su_schema.specs.SchemaValue.{SchemaValue}
use Rattle.su_query.specs.declared.resolving.Resolved.{Resolved}
use Rattle.su_query.specs.Sets.{mentioned_with}
use Rattle.su_steps.specs.declared.faults.StepFault.{StepFault}
use Rattle.su_steps.specs.declared.faults.StepFault.TheVariants.{NotCovered, Limit, NoMemory}
use Rattle.su_steps.specs.Choices.{coverings}
use Rattle.su_steps.specs.Limits.{HasFewDisjuncts, HasFewRows, HasFewTerms, IsLimitPassed}

-- the first variable that no maximal object covers
abbrev pub first_uncovered : SchemaValue → List (FinSet nat_cmp) → Resolved → Option ℕ
first_uncovered schema maximal q = position (λ ms. length ms == 0) (coverings schema maximal q)

-- every variable is covered
abbrev pub IsCovered : SchemaValue → List (FinSet nat_cmp) → Resolved → Type 0
IsCovered schema maximal q = first_uncovered schema maximal q ≡ None

-- the query gets terms
pub record IsAccepted (schema : SchemaValue) (maximal : List (FinSet nat_cmp)) (q : Resolved) : Type 0 where
  pub covered : IsCovered schema maximal q
  pub few_disjuncts : HasFewDisjuncts q
  pub few_rows : HasFewRows schema maximal q
  pub few_terms : HasFewTerms schema maximal q

-- the fault names variable v, and what is mentioned with it
abbrev pub NamesVariable : Resolved → ℕ → StepFault → Type 0
NamesVariable q v (NotCovered variable mentioned) = (slice_get q.variables v ≡ Some variable) × (mentioned ≡ mentioned_with q.places v)
NamesVariable q v (Limit limit) = ⊥
NamesVariable q v NoMemory = ⊥

-- why the query is refused: the first cause that stands against it; want of memory is no cause
abbrev pub IsStepRefusal : SchemaValue → List (FinSet nat_cmp) → Resolved → StepFault → Type 0
IsStepRefusal schema maximal q (NotCovered variable mentioned) = (v : ℕ) × (first_uncovered schema maximal q ≡ Some v) × NamesVariable q v (NotCovered variable mentioned)
IsStepRefusal schema maximal q (Limit limit) = IsCovered schema maximal q × IsLimitPassed schema maximal q limit
IsStepRefusal schema maximal q NoMemory = ⊥
