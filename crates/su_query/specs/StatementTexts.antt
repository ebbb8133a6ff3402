-- What a text is read as, and why it is refused.
-- formless: no statement of the grammar; deep: its parentheses nest more than 64 deep
use Rattle.std.specs.Prelude.{◌≡◌, true, ◌⊎◌, ℕ, ◌<◌, List, length}
use Rattle.su_lex.specs.declared.meaning.Symbol.{Symbol}
use Rattle.su_query.specs.declared.statements.Statement.{Statement}
use Rattle.su_query.specs.declared.statements.Statement.TheVariants.{DeleteWhere, Retrieve, Explain, Certify, Support, Compare, Window}
use Rattle.su_query.specs.declared.faults.QueryFault.{QueryFault}
use Rattle.su_query.specs.declared.faults.QueryFault.TheVariants.{Syntax, Limit}
use Rattle.su_query.specs.declared.faults.QueryLimit.TheVariants.{Nesting}
use Rattle.su_lex.specs.Symbols.{Symbols}
use Rattle.su_lex.specs.Nesting.{IsDeep}
use Rattle.su_query.specs.Forms.{IsForm}
use Rattle.su_query.specs.Mentions.{are_columns}
use Rattle.su_query.specs.Shown.{statement_text}
use Rattle.su_query.specs.Limits.{parts_of, PartsPass}

-- each ref of a deletion's condition is a column, a query has an output, and a window a name
abbrev pub IsReady : Statement → Type 0
IsReady (DeleteWhere relation cond) = are_columns cond ≡ true
IsReady (Retrieve q) = 0 < length q.outputs
IsReady (Explain q) = 0 < length q.outputs
IsReady (Certify q) = 0 < length q.outputs
IsReady (Support q) = 0 < length q.outputs
IsReady (Compare first second) = (0 < length first.outputs) × (0 < length second.outputs)
IsReady (Window names) = 0 < length names
IsReady _ = Unit {0}

-- the text is this statement of the grammar, and its parentheses nest at most 64 deep
pub record IsStatement (text : List ℕ) (st : Statement) : Type 0 where
  pub symbols : List Symbol
  pub spelled : Symbols text symbols
  pub shallow : ¬ (IsDeep symbols)
  pub form : IsForm st symbols

-- the text is in no form: it has no symbols, or they nest at most 64 deep and are no statement
abbrev pub IsFormless : List ℕ → Type 0
IsFormless text = ((symbols : List Symbol) → ¬ (Symbols text symbols)) ⊎ ((symbols : List Symbol) × Symbols text symbols × ¬ (IsDeep symbols) × ((st : Statement) → ¬ (IsForm st symbols)))

-- the text is symbols whose parentheses nest too deep
abbrev pub NestsTooDeep : List ℕ → Type 0
NestsTooDeep text = (symbols : List Symbol) × Symbols text symbols × IsDeep symbols

-- when a text is refused with this fault
abbrev pub IsTextRefusal : List ℕ → QueryFault → Type 0
IsTextRefusal text Syntax = IsFormless text
IsTextRefusal text (Limit Nesting) = NestsTooDeep text
IsTextRefusal text (Limit limit) = (st : Statement) × IsStatement text st × PartsPass (parts_of st) (Limit limit)
IsTextRefusal text _ = ⊥

-- a text that is this statement is one whose shown text is this statement too, where that nests at most 64 deep
abbrev pub ReadsAgain : Statement → Type 0
ReadsAgain st = (text : List ℕ) → IsStatement text st → ¬ (NestsTooDeep (statement_text st)) → IsStatement (statement_text st) st
