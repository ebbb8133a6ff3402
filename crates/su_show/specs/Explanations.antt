-- The explanation of a query: the query, its variables, and its terms with what is kept of them.
-- kept term: one that no other term answers for; the others are dropped
use Rattle.std.specs.Prelude.{◌≡◌, ℕ, List, ◌∷◌, ◌++◌, length, flat_map, slice_get, Some, codes, decimal}
use Rattle.std.specs.List.{range_with_len}
use Rattle.su_schema.specs.SchemaValue.{SchemaValue}
use Rattle.su_query.specs.declared.statements.Query.{Query}
use Rattle.su_query.specs.declared.resolving.Resolved.{Resolved}
use Rattle.su_query.specs.Shown.{query_text}
use Rattle.su_steps.specs.declared.results.Term.{Term}
use Rattle.su_min.specs.declared.reduced.Reduced.{Reduced}
use Rattle.su_min.specs.Kept.{Minimised}
use Rattle.su_show.specs.Lines.{AreLines}
use Rattle.su_show.specs.QueryCauses.{variable_text}
use Rattle.su_show.specs.TableauLines.{tableau_lines}
use Rattle.su_show.specs.MinimalLines.{minimal_lines, IsEnd}

-- the query as it is shown
abbrev pub query_line : Query → List ℕ
query_line query = codes "query: " ++ query_text query ++ codes "\n"

-- the variables in the order of their first mention
abbrev pub variables_line : Resolved → List ℕ
variables_line q = codes "variables" ++ flat_map (λ v. 32 ∷ variable_text v) q.variables ++ codes "\n"

-- what is shown of the term with this number
pub record IsTermText (schema : SchemaValue) (q : Resolved) (terms : List Term) (minimals : List Minimised) (reduced : Reduced) (i : ℕ) (text : List ℕ) : Type 0 where
  pub term : Term
  pub term_is : slice_get terms i ≡ Some term
  pub minimal : Minimised
  pub minimal_is : slice_get minimals i ≡ Some minimal
  pub end : List ℕ
  pub end_is : IsEnd schema reduced i minimal end
  pub is : text ≡ tableau_lines schema q i term ++ minimal_lines minimal ++ end

-- how many terms there are, and how many are kept
abbrev pub last_line : List Term → Reduced → List ℕ
last_line terms reduced = codes "terms " ++ decimal (length terms) ++ codes " kept " ++ decimal (length reduced.kept) ++ codes "\n"

-- the explanation of a query by its terms, what is kept of each, and which of them are kept
pub record IsExplanation (schema : SchemaValue) (query : Query) (q : Resolved) (terms : List Term) (minimals : List Minimised) (reduced : Reduced) (text : List ℕ) : Type 0 where
  pub body : List ℕ
  pub terms_are : AreLines (IsTermText schema q terms minimals reduced) (range_with_len 0 (length terms)) body
  pub is : text ≡ query_line query ++ variables_line q ++ body ++ last_line terms reduced
