-- How a statement is shown: its symbols, with one space between two, but for parentheses, commas and dots.
-- nothing: a condition that is all of nothing, and isn't shown
use Rattle.std.specs.Prelude.{ℕ, Bool, false, ◌==◌, if◌then◌else◌, codes, List, [], ◌∷◌, ◌++◌, length}
use Rattle.su_lex.specs.declared.meaning.Symbol.{Symbol}
use Rattle.su_lex.specs.declared.meaning.Symbol.TheVariants.{Word, Text}
use Rattle.su_lex.specs.Names.{names_symbols}
use Rattle.su_lex.specs.Spelling.{spaced}
use Rattle.su_query.specs.declared.conditions.Comparison.{Comparison}
use Rattle.su_query.specs.Refs.{NamedCond}
use Rattle.su_where.specs.declared.conditions.Condition.TheOpen.{Condition-F, Compare, Not, All, Any}
use Rattle.su_where.specs.declared.conditions.Condition.TheFolds.{fold-Condition}
use Rattle.su_query.specs.declared.statements.Query.{Query}
use Rattle.su_query.specs.declared.statements.Statement.{Statement}
use Rattle.su_query.specs.declared.statements.Statement.TheVariants.{Insert, Delete, DeleteWhere, Load, Print, Schema, Closure, Retrieve, Explain, Certify, Support, Compare as Comparing, Window}
use Rattle.su_query.specs.ShownParts.{values_symbols, refs_symbols}
use Rattle.su_lex.specs.Wordings.{in_parens}
use Rattle.su_query.specs.ShownConditions.{cond_symbols}

-- the condition is an `and` of nothing
abbrev pub nothing_step : Condition-F Comparison Bool → Bool
nothing_step (Compare k) = false
nothing_step (Not x) = false
nothing_step (All xs) = length xs == 0
nothing_step (Any xs) = false

-- whether a condition is all of nothing
abbrev pub is_nothing : NamedCond → Bool
is_nothing = fold-Condition Comparison Bool nothing_step

-- all of nothing has no `where`
abbrev pub where_symbols : NamedCond → List Symbol
where_symbols c = if is_nothing c then [] else Word (codes "where") ∷ cond_symbols c

-- the symbols of a query
abbrev pub query_symbols : Query → List Symbol
query_symbols q = Word (codes "retrieve") ∷ (in_parens (refs_symbols q.outputs) ++ where_symbols q.cond)

-- the symbols of a statement, by its form
abbrev pub statement_symbols : Statement → List Symbol
statement_symbols (Insert relation row) = Word (codes "insert") ∷ Word relation ∷ in_parens (values_symbols row)
statement_symbols (Delete relation row) = Word (codes "delete") ∷ Word relation ∷ in_parens (values_symbols row)
statement_symbols (DeleteWhere relation cond) = Word (codes "delete") ∷ Word relation ∷ Word (codes "where") ∷ cond_symbols cond
statement_symbols (Load relation file) = Word (codes "load") ∷ Word relation ∷ Word (codes "from") ∷ Text file ∷ []
statement_symbols (Print relation) = Word (codes "print") ∷ Word relation ∷ []
statement_symbols Schema = Word (codes "schema") ∷ []
statement_symbols (Closure attributes) = Word (codes "closure") ∷ in_parens (names_symbols attributes)
statement_symbols (Retrieve q) = query_symbols q
statement_symbols (Explain q) = Word (codes "explain") ∷ query_symbols q
statement_symbols (Certify q) = Word (codes "explain") ∷ Word (codes "with") ∷ query_symbols q
statement_symbols (Support q) = Word (codes "explain") ∷ Word (codes "from") ∷ query_symbols q
statement_symbols (Comparing first second) = Word (codes "compare") ∷ (in_parens (query_symbols first) ++ Word (codes "with") ∷ in_parens (query_symbols second))
statement_symbols (Window attributes) = Word (codes "window") ∷ in_parens (names_symbols attributes)

-- the text of a query
abbrev pub query_text : Query → List ℕ
query_text q = spaced (query_symbols q)

-- the text of a statement
abbrev pub statement_text : Statement → List ℕ
statement_text st = spaced (statement_symbols st)
