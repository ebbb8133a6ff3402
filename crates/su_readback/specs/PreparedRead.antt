-- What is shown of a prepared query is read as what was shown.
-- prepared: with its terms, each with its least rows and its fold, and which of them are kept
use Rattle.std.specs.Prelude.{ℕ, ◌<◌, ◌≤◌, List, length, All}
use Rattle.std.specs.List.{AllByRecursion}
use Rattle.std.specs.Ordering.{nat_cmp}
use Rattle.std.specs.FinSet.{FinSet}
use Rattle.su_lex.specs.Symbols.{IsSymbol}
use Rattle.su_query.specs.declared.resolving.Resolved.{Resolved}
use Rattle.su_query.specs.declared.statements.Query.{Query}
use Rattle.su_query.specs.Operands.{IsVariable}
use Rattle.su_query.specs.Ranges.{IsResolved}
use Rattle.su_query.specs.Shown.{query_symbols}
use Rattle.su_schema.specs.SchemaValue.{SchemaValue}
use Rattle.su_schema.specs.Valid.{IsValid}
use Rattle.su_steps.specs.Refusals.{IsAccepted}
use Rattle.su_answer.specs.declared.preparing.Prepared.{Prepared}
use Rattle.su_answer.specs.Prepared.{IsPrepared}
use Rattle.su_show.specs.Explanations.{IsExplanation}
use Rattle.su_explained.specs.declared.reading.Line.{Line}
use Rattle.su_explained.specs.TextLines.{AreLinesOf}
use Rattle.su_readback.specs.Explanations.{AreExplanationShown}

-- the query gives something, it is prepared over at most 128 maximal objects, and its text is made of symbols
pub record IsShownQuery (schema : SchemaValue) (maximal : List (FinSet nat_cmp)) (query : Query) (q : Resolved) (p : Prepared) : Type 0 where
  pub valid : IsValid schema
  pub resolved : IsResolved schema q
  pub few : length maximal ≤ 128
  pub accepted : IsAccepted schema maximal q
  pub prepared : IsPrepared schema maximal q p
  pub some : 0 < length q.outputs
  pub symbols : All IsSymbol (query_symbols query)
  pub named : AllByRecursion IsVariable q.variables

-- the explanation of a prepared query is read as its lines
abbrev pub PreparedAreRead : Type 0
PreparedAreRead =
    (schema : SchemaValue) (maximal : List (FinSet nat_cmp)) (query : Query) (q : Resolved) (p : Prepared) (text : List ℕ) → IsShownQuery schema maximal query q p
    → IsExplanation schema query q p.terms p.minimals p.reduced text
    → (lines : List Line) × AreExplanationShown schema query q p.terms p.minimals p.reduced lines × AreLinesOf text lines
