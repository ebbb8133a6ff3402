-- The lines of a term: its number, its rows and its head.
-- pair: what a cell stands for, an attribute of a variable; origin of a row: the variable and the object that it is for
-- Terms, rows, disjuncts and maximal objects are numbered from 0. Each line ends with a line feed.
use Rattle.std.specs.Prelude.{ℕ, ◌+◌, ◌*◌, List, [], ◌∷◌, ◌++◌, length, map, flat_map, take, slice_index_or, codes, decimal}
use Rattle.std.specs.List.{range_with_len}
use Rattle.su_lex.specs.Spelling.{spelled}
use Rattle.su_where.specs.declared.operators.Op.{Op}
use Rattle.su_tableau.specs.Tableaux.{Tab}
use Rattle.su_schema.specs.SchemaValue.{SchemaValue}
use Rattle.su_query.specs.declared.resolving.Resolved.{Resolved}
use Rattle.su_query.specs.Operands.{op_sym}
use Rattle.su_steps.specs.declared.results.Term.{Term}
use Rattle.su_show.specs.Symbols.{symbol_at}
use Rattle.su_lex.specs.Wordings.{numbers_text}
use Rattle.su_show.specs.RowLines.{symbols_text, row_lines}

-- the term's number, its disjunct, and for each variable its maximal object
abbrev pub term_line : ℕ → Term → List ℕ
term_line i t = codes "term " ++ decimal i ++ codes " disjunct " ++ decimal t.disjunct ++ codes " choice" ++ numbers_text t.choice ++ codes "\n"

-- the symbols of the outputs
abbrev pub head_line : SchemaValue → Resolved → Tab → List ℕ
head_line schema q t = codes "  head" ++ symbols_text schema q (take t.outputs t.head) ++ codes "\n"

-- the operator with this number
abbrev pub operator_at : List Op → ℕ → List ℕ
operator_at ops i = slice_index_or (map (λ op. spelled (op_sym op)) ops) i []

-- a comparison that is left, by its number; its sides follow the outputs
abbrev pub compare_line : SchemaValue → Resolved → Tab → ℕ → List ℕ
compare_line schema q t i =
    codes "  compare " ++ symbol_at schema q t.head (t.outputs + 2 * i) ++ 32 ∷ operator_at t.operators i ++ 32 ∷ symbol_at schema q t.head (t.outputs + 2 * i + 1) ++ codes "\n"

-- the comparisons of a tableau
abbrev pub compare_lines : SchemaValue → Resolved → Tab → List ℕ
compare_lines schema q t = flat_map (compare_line schema q t) (range_with_len 0 (length t.operators))

-- a term by its number, down to its comparisons
abbrev pub tableau_lines : SchemaValue → Resolved → ℕ → Term → List ℕ
tableau_lines schema q i t = term_line i t ++ row_lines schema q t.tableau 0 t.origins ++ head_line schema q t.tableau ++ compare_lines schema q t.tableau
