-- An explanation is read as what was shown.
-- told: as the reader takes it, with numbers of at most three digits and at least one of what a line lists
use Rattle.std.specs.Prelude.{◌≡◌, ℕ, ◌<◌, List, length, take, slice_get, Option, Some, None, All, AllPairs, Contains}
use Rattle.std.specs.List.{AllByRecursion}
use Rattle.su_map.specs.Lists.{row_numbers}
use Rattle.su_min.specs.declared.reduced.Cover.{Cover}
use Rattle.su_min.specs.declared.reduced.Reduced.{Reduced}
use Rattle.su_min.specs.Kept.{Minimised}
use Rattle.su_lex.specs.Symbols.{IsSymbol}
use Rattle.su_query.specs.declared.resolving.Resolved.{Resolved}
use Rattle.su_query.specs.declared.statements.Query.{Query}
use Rattle.su_query.specs.Operands.{IsVariable}
use Rattle.su_query.specs.Shown.{query_symbols}
use Rattle.su_schema.specs.SchemaValue.{SchemaValue}
use Rattle.su_schema.specs.Valid.{IsValid}
use Rattle.su_steps.specs.declared.results.Term.{Term}
use Rattle.su_show.specs.Explanations.{IsExplanation}
use Rattle.su_show.specs.MinimalLines.{cover_of}
use Rattle.su_explained.specs.declared.reading.Line.{Line}
use Rattle.su_explained.specs.TextLines.{AreLinesOf}
use Rattle.su_readback.specs.Explanations.{AreExplanationShown}

-- a term with its least rows: some rows and outputs, and its fold goes from each row to one of them
pub record IsTold (term : Term) (minimal : Minimised) : Type 0 where
  pub disjunct : term.disjunct < 1000
  pub choice : AllByRecursion (λ n. n < 1000) term.choice
  pub some_rows : 0 < length term.origins
  pub few_rows : length term.origins < 1000
  pub outputs : 0 < length (take term.tableau.outputs term.tableau.head)
  pub some_kept : 0 < length (row_numbers minimal.tableau minimal.mask)
  pub few_kept : length (row_numbers minimal.tableau minimal.mask) < 1000
  pub kept : AllByRecursion (λ r. r < length term.origins) (row_numbers minimal.tableau minimal.mask)
  pub fold_length : length minimal.fold ≡ length term.origins
  pub fold : AllByRecursion (λ r. r < length term.origins) minimal.fold

-- each dropped term has a cover, by a term whose rows go to rows of it
abbrev pub IsCovered : Term → Option Cover → Type 0
IsCovered term None = ⊥
IsCovered term (Some c) = (c.by < 1000) × AllByRecursion (λ r. r < length term.origins) c.mapping.list

-- terms with their least rows and what is kept of them: fewer than 1,000, numbered from 0
pub record AreTold (terms : List Term) (minimals : List Minimised) (reduced : Reduced) : Type 0 where
  pub few : length terms < 1000
  pub told : (i : ℕ) (term : Term) (minimal : Minimised) → slice_get terms i ≡ Some term → slice_get minimals i ≡ Some minimal → IsTold term minimal
  pub ascending : AllPairs (λ i j. i < j) reduced.kept
  pub within : All (λ i. i < length terms) reduced.kept
  pub covered : (i : ℕ) (term : Term) → slice_get terms i ≡ Some term → ¬ Contains reduced.kept i → IsCovered term (cover_of reduced i)

-- the explanation of a query over a valid schema, with some variables, is read as its lines
abbrev pub ExplanationsAreRead : Type 0
ExplanationsAreRead =
    (schema : SchemaValue) (query : Query) (q : Resolved) (terms : List Term) (minimals : List Minimised) (reduced : Reduced) (text : List ℕ) → IsValid schema
    → All IsSymbol (query_symbols query) → 0 < length q.variables → AllByRecursion IsVariable q.variables → AreTold terms minimals reduced
    → IsExplanation schema query q terms minimals reduced text
    → (lines : List Line) × AreExplanationShown schema query q terms minimals reduced lines × AreLinesOf text lines
