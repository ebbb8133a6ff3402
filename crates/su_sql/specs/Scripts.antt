-- What is written for a script: the tables of the schema, and then each statement in order.
-- script: the tables' text, and then what is written for each statement, on the database that those before it left
use Rattle.std.specs.Prelude.{◌≡◌, ℕ, List, [], ◌∷◌, ◌++◌, length, map}
use Rattle.std.specs.List.{flat_map, range_with_len}
use Rattle.su_lex.specs.declared.spans.Span.{Span}
use Rattle.su_lex.specs.Pieces.{Pieces}
use Rattle.su_ddl.specs.Files.{statement_of}
use Rattle.su_schema.specs.SchemaValue.{SchemaValue}
use Rattle.su_state.specs.DatabaseValue.{DatabaseValue}
use Rattle.su_session.specs.declared.replies.Reply.{Reply}
use Rattle.su_session.specs.EmptyDatabase.{empty_database}
use Rattle.su_session.specs.Outcomes.{some_refused}
use Rattle.su_sql.specs.declared.dialects.Dialect.{Dialect}
use Rattle.su_sql.specs.Changes.{create_text}
use Rattle.su_sql.specs.Statements.{Writes}

-- each statement is written on the database that those before it left
abbrev pub AreWritten : Dialect → DatabaseValue → List (List ℕ) → List Reply → DatabaseValue → Type 0
AreWritten d old [] [] new = new ≡ old
AreWritten d old [] (reply ∷ replies) new = ⊥
AreWritten d old (text ∷ texts) [] new = ⊥
AreWritten d old (text ∷ texts) (reply ∷ replies) new = (next : DatabaseValue) × Writes d old text reply next × AreWritten d next texts replies new

-- what is written, one behind another
abbrev pub output_of : List Reply → List ℕ
output_of replies = flat_map (λ reply. reply.bytes) replies

-- the tables of the schema's relations
abbrev pub tables_text : Dialect → SchemaValue → List ℕ
tables_text d schema = flat_map (create_text d schema) (range_with_len 0 (length schema.relations))

-- the tables of the schema, and then what is written for each statement of the script, in order
pub record WritesScript (d : Dialect) (schema : SchemaValue) (script : List ℕ) (reply : Reply) : Type 0 where
  pub spans : List Span
  pub pieces : Pieces script spans
  pub replies : List Reply
  pub last : DatabaseValue
  pub written : AreWritten d (empty_database schema) (map (statement_of script) spans) replies last
  pub refused_is : reply.refused ≡ some_refused replies
  pub text : reply.bytes ≡ tables_text d schema ++ output_of replies
