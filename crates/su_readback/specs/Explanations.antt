-- The lines of an explanation, as words.
-- shown: a query with its variables, and its terms with what is kept of them, as the reply to `explain` has them
use Rattle.std.specs.Prelude.{◌≡◌, ◌⊎◌, ◌↔◌, ℕ, ◌+◌, ◌*◌, ◌==◌, ◌&&◌, not, if◌then◌else◌, IsTrue, Bool, false, List, [], ◌∷◌, ◌++◌, length, map, take, slice_get, Some, Contains, codes, decimal}
use Rattle.std.specs.List.{range_with_len}
use Rattle.std.specs.Ordering.{nat_cmp}
use Rattle.std.specs.FinSet.{FinSet, contains}
use Rattle.su_map.specs.Lists.{row_numbers, row_of}
use Rattle.su_min.specs.declared.reduced.Cover.{Cover}
use Rattle.su_min.specs.declared.reduced.Reduced.{Reduced}
use Rattle.su_min.specs.Kept.{Minimised}
use Rattle.su_query.specs.declared.resolving.Resolved.{Resolved}
use Rattle.su_query.specs.declared.statements.Query.{Query}
use Rattle.su_query.specs.Shown.{query_text}
use Rattle.su_schema.specs.SchemaValue.{SchemaValue}
use Rattle.su_schema.specs.Entries.{attribute_names, object_names}
use Rattle.su_ddl.specs.ShownDefinitions.{name_at, names_in}
use Rattle.su_steps.specs.declared.results.Origin.{Origin}
use Rattle.su_steps.specs.declared.results.Term.{Term}
use Rattle.su_steps.specs.Sources.{IsSource}
use Rattle.su_tableau.specs.declared.symbols.Sym.{Sym}
use Rattle.su_tableau.specs.Tableaux.{Tab}
use Rattle.su_show.specs.MinimalLines.{cover_of}
use Rattle.su_show.specs.QueryCauses.{variable_text}
use Rattle.su_show.specs.RowLines.{attributes_shown}
use Rattle.su_show.specs.Symbols.{variable_at, symbol_text, symbol_at}
use Rattle.su_show.specs.TableauLines.{operator_at}
use Rattle.su_explained.specs.declared.kinds.Kind.{Kind}
use Rattle.su_explained.specs.declared.kinds.Kind.TheVariants as line
use Rattle.su_explained.specs.declared.reading.Line.{Line}

abbrev pub line_with : Kind → List (List ℕ) → Line
line_with kind words = record { kind = kind; words = words }

-- a line below a term, behind two empty words
abbrev pub inner_line : Kind → List (List ℕ) → Line
inner_line kind words = line_with kind ([] ∷ [] ∷ words)

-- one more byte of the first word
abbrev pub longer : ℕ → List (List ℕ) → List (List ℕ)
longer b [] = (b ∷ []) ∷ []
longer b (w ∷ ws) = (b ∷ w) ∷ ws

-- a text cut at each blank (32) outside quotes (39)
abbrev pub words_in : Bool → List ℕ → List (List ℕ)
words_in quoted [] = [] ∷ []
words_in quoted (b ∷ bs) = if not quoted && (b == 32) then [] ∷ words_in false bs else longer b (words_in (if b == 39 then not quoted else quoted) bs)

-- the query
abbrev pub query_shown : Query → Line
query_shown query = line_with line.Query (codes "query:" ∷ words_in false (query_text query))

-- its variables
abbrev pub variables_shown : Resolved → Line
variables_shown q = line_with line.Variables (codes "variables" ∷ map variable_text q.variables)

-- a term's number, its disjunct and its maximal objects
abbrev pub term_shown : ℕ → Term → Line
term_shown i t = line_with line.Term (codes "term" ∷ decimal i ∷ codes "disjunct" ∷ decimal t.disjunct ∷ codes "choice" ∷ map decimal t.choice)

-- an attribute and its symbol in these cells
abbrev pub cell_shown : SchemaValue → Resolved → List Sym → ℕ → List ℕ
cell_shown schema q cells a = name_at (attribute_names schema) a ++ codes "=" ++ symbol_at schema q cells a

-- a row
abbrev pub row_shown : SchemaValue → Resolved → Tab → ℕ → Origin → Line
row_shown schema q t r o =
    inner_line line.Row
    (codes "row" ∷ decimal r ∷ variable_text (variable_at q o.variable) ∷ name_at (object_names schema) o.object ∷ map (cell_shown schema q (row_of t r)) (attributes_shown schema o.object))

-- the rows from this number on
abbrev pub rows_shown : SchemaValue → Resolved → Tab → ℕ → List Origin → List Line
rows_shown schema q t r [] = []
rows_shown schema q t r (o ∷ os) = row_shown schema q t r o ∷ rows_shown schema q t (r + 1) os

-- the outputs
abbrev pub head_shown : SchemaValue → Resolved → Tab → Line
head_shown schema q t = inner_line line.Head (codes "head" ∷ map (symbol_text schema q) (take t.outputs t.head))

-- a comparison, by its number
abbrev pub compare_shown : SchemaValue → Resolved → Tab → ℕ → Line
compare_shown schema q t i =
    inner_line line.Compare (codes "compare" ∷ symbol_at schema q t.head (t.outputs + 2 * i) ∷ operator_at t.operators i ∷ symbol_at schema q t.head (t.outputs + 2 * i + 1) ∷ [])

-- a term, down to its comparisons
abbrev pub tableau_shown : SchemaValue → Resolved → ℕ → Term → List Line
tableau_shown schema q i t =
    term_shown i t ∷ (rows_shown schema q t.tableau 0 t.origins ++ head_shown schema q t.tableau ∷ map (compare_shown schema q t.tableau) (range_with_len 0 (length t.tableau.operators)))

-- what is kept of a term
abbrev pub minimal_shown : Minimised → List Line
minimal_shown m =
    inner_line line.Kept (codes "kept" ∷ map decimal (row_numbers m.tableau m.mask)) ∷ inner_line line.Fold (codes "fold" ∷ map decimal m.fold) ∷ []

-- a kept row and its sources
abbrev pub AreSourcesShown : SchemaValue → Minimised → List ℕ → List Line → Type 0
AreSourcesShown schema m [] lines = lines ≡ []
AreSourcesShown schema m (r ∷ rs) lines =
    (sources : FinSet nat_cmp) × (rest : List Line) × ((o : ℕ) → IsTrue (contains sources o) ↔ IsSource schema m.tableau m.mask r o)
    × (lines ≡ inner_line line.Sources (codes "sources" ∷ decimal r ∷ names_in (object_names schema) sources) ∷ rest) × AreSourcesShown schema m rs rest

-- what covers a dropped term
abbrev pub cover_shown : Cover → Line
cover_shown c = inner_line line.Covered (codes "covered" ∷ codes "by" ∷ codes "term" ∷ decimal c.by ∷ codes "rows" ∷ map decimal c.mapping.list)

-- the sources of each kept row of a kept term, or the cover of a dropped one
abbrev pub IsEndShown : SchemaValue → Reduced → ℕ → Minimised → List Line → Type 0
IsEndShown schema reduced i m lines =
    (Contains reduced.kept i × AreSourcesShown schema m (row_numbers m.tableau m.mask) lines)
    ⊎ ((¬ Contains reduced.kept i) × (c : Cover) × (cover_of reduced i ≡ Some c) × (lines ≡ cover_shown c ∷ []))

-- the lines of the terms with these numbers
abbrev pub AreTermsShown : SchemaValue → Resolved → List Term → List Minimised → Reduced → List ℕ → List Line → Type 0
AreTermsShown schema q terms minimals reduced [] lines = lines ≡ []
AreTermsShown schema q terms minimals reduced (i ∷ numbers) lines =
    (term : Term) × (minimal : Minimised) × (end : List Line) × (rest : List Line) × (slice_get terms i ≡ Some term) × (slice_get minimals i ≡ Some minimal)
    × IsEndShown schema reduced i minimal end × (lines ≡ (tableau_shown schema q i term ++ minimal_shown minimal ++ end) ++ rest)
    × AreTermsShown schema q terms minimals reduced numbers rest

-- how many terms there are, and how many are kept
abbrev pub count_shown : List Term → Reduced → Line
count_shown terms reduced = line_with line.Count (codes "terms" ∷ decimal (length terms) ∷ codes "kept" ∷ decimal (length reduced.kept) ∷ [])

-- the lines of an explanation
pub record AreExplanationShown (schema : SchemaValue) (query : Query) (q : Resolved) (terms : List Term) (minimals : List Minimised) (reduced : Reduced) (lines : List Line) : Type 0 where
  pub body : List Line
  pub terms_are : AreTermsShown schema q terms minimals reduced (range_with_len 0 (length terms)) body
  pub are : lines ≡ query_shown query ∷ variables_shown q ∷ (body ++ count_shown terms reduced ∷ [])
