-- The reply to a text: what is said, whether it is a refusal, and the database after it.
-- definition: a text whose first symbol is a word that begins a definition
use Rattle.std.specs.Prelude.{◌⊎◌, ℕ, ◌||◌, Bool, false, List, [], ◌∷◌, Option, unwrap_or, IsTrue, codes, Result}
use Rattle.std.specs.Str.{bytes_eq}
use Rattle.su_lex.specs.declared.meaning.Symbol.{Symbol}
use Rattle.su_lex.specs.declared.meaning.Symbol.TheVariants.{Word}
use Rattle.su_lex.specs.Symbols.{Symbols}
use Rattle.su_schema.specs.declared.definitions.Definition.{Definition}
use Rattle.su_ddl.specs.Grammar.{IsDefinition}
use Rattle.su_query.specs.declared.statements.Statement.{Statement}
use Rattle.su_query.specs.declared.faults.QueryFault.{QueryFault}
use Rattle.su_query.specs.declared.faults.QueryFault.TheVariants.{Syntax}
use Rattle.su_query.specs.StatementTexts.{IsStatement, IsTextRefusal}
use Rattle.su_query.specs.Limits.{HasFew}
use Rattle.su_state.specs.declared.faults.DefineFault.{DefineFault}
use Rattle.su_state.specs.DatabaseValue.{DatabaseValue}
use Rattle.su_state.specs.Definitions.{Defines}
use Rattle.su_show.specs.declared.statement_refusal.Refusal.TheVariants.{Query}
use Rattle.su_session.specs.declared.replies.Reply.{Reply}
use Rattle.su_session.specs.Outcomes.{Refuses, TellsDefine}
use Rattle.su_session.specs.Statements.{Answers}

-- the words that begin definitions
abbrev pub is_definition_word : List ℕ → Bool
is_definition_word w = bytes_eq w (codes "attribute") || bytes_eq w (codes "relation") || bytes_eq w (codes "object") || bytes_eq w (codes "fd") || bytes_eq w (codes "maximal")

-- the first symbol is a word that begins definitions
abbrev pub begins_definition : List Symbol → Bool
begins_definition (Word w ∷ others) = is_definition_word w
begins_definition others = false

-- the text begins as definitions do
abbrev pub IsDefining : List ℕ → Type 0
IsDefining text = (symbols : List Symbol) × Symbols text symbols × IsTrue (begins_definition symbols)

-- the definition is refused by the schema or by the stored rows, else added
abbrev pub AddsDefinition : DatabaseValue → Definition → Reply → DatabaseValue → Type 0
AddsDefinition db d reply new = (answer : Result (Unit {0}) DefineFault) × Defines db d answer new × TellsDefine db answer reply new

-- a definition: refused where it is in no form
abbrev pub RepliesDefinition : DatabaseValue → List ℕ → Reply → DatabaseValue → Type 0
RepliesDefinition db text reply new =
    (((d : Definition) → ¬ IsDefinition text d) × Refuses db (Query Syntax) reply new)
    ⊎ ((d : Definition) × IsDefinition text d × AddsDefinition db d reply new)

-- any other text, beside the bytes of its file: refused by its text alone, else answered as the statement that it is
abbrev pub RepliesStatement : DatabaseValue → List ℕ → List ℕ → Reply → DatabaseValue → Type 0
RepliesStatement db text file reply new =
    ((fault : QueryFault) × IsTextRefusal text fault × Refuses db (Query fault) reply new)
    ⊎ ((st : Statement) × IsStatement text st × HasFew st × Answers db file st reply new)

-- the reply to a text; without a file an empty one is read
pub data Replied (db : DatabaseValue) (text : List ℕ) (file : Option (List ℕ)) (reply : Reply) (new : DatabaseValue) : Type 0 where
  definition : IsDefining text → RepliesDefinition db text reply new → Replied db text file reply new
  statement : ¬ (IsDefining text) → RepliesStatement db text (unwrap_or file []) reply new → Replied db text file reply new
