-- What is written for a statement.
-- text: the statement's bytes; said: what sysu replies to it; reply: what is written for it
-- Each statement is taken as `sysu` takes it, on the rows that the script itself inserted: where that refuses it, the line of the refusal is a comment.
-- A retrieve is written as the selects of its kept terms, and a load as a comment; neither is executed.
use Rattle.std.specs.Prelude.{◌≡◌, ◌⊎◌, ℕ, Bool, true, false, List, Some, None}
use Rattle.su_query.specs.declared.faults.QueryFault.{QueryFault}
use Rattle.su_query.specs.declared.statements.Statement.{Statement}
use Rattle.su_query.specs.declared.statements.Statement.TheVariants.{Load, Retrieve}
use Rattle.su_query.specs.StatementTexts.{IsStatement, IsTextRefusal}
use Rattle.su_state.specs.DatabaseValue.{DatabaseValue}
use Rattle.su_session.specs.declared.replies.Reply.{Reply}
use Rattle.su_session.specs.Reply.{Replied}
use Rattle.su_session.specs.Outcomes.{Accepts}
use Rattle.su_session.specs.RowStatements.{relation_number}
use Rattle.su_sql.specs.declared.dialects.Dialect.{Dialect}
use Rattle.su_sql.specs.Comments.{load_text}
use Rattle.su_sql.specs.Accepted.{accepted_text, defined_text}
use Rattle.su_sql.specs.QueryReplies.{RefusesWith, WritesQuery}

-- what is written where this is replied: the refusal as a comment, or else the text
abbrev pub Tells : Bool → List ℕ → List ℕ → Reply → Type 0
Tells true said text reply = RefusesWith said reply
Tells false said text reply = Accepts text reply

-- what is written for a statement, which is replied to on the database
abbrev pub WritesReply : Dialect → DatabaseValue → List ℕ → Statement → Reply → DatabaseValue → Type 0
WritesReply d db text st reply new = (said : Reply) × Replied db text None said new × Tells said.refused said.bytes (accepted_text d new.schema st said.bytes) reply

-- how a known relation's file is loaded; an unknown one is refused
abbrev pub WritesLoad : Dialect → DatabaseValue → List ℕ → List ℕ → List ℕ → Reply → DatabaseValue → Type 0
WritesLoad d db text name path reply new =
    ((r : ℕ) × (relation_number db name ≡ Some r) × Accepts (load_text d db.schema r path) reply × (new ≡ db))
    ⊎ ((relation_number db name ≡ None) × WritesReply d db text (Load name path) reply new)

-- what is written for a statement
abbrev pub WritesStatement : Dialect → DatabaseValue → List ℕ → Statement → Reply → DatabaseValue → Type 0
WritesStatement d db text (Retrieve q) reply new = WritesQuery d db q reply × (new ≡ db)
WritesStatement d db text (Load name path) reply new = WritesLoad d db text name path reply new
WritesStatement d db text st reply new = WritesReply d db text st reply new

-- what is written for a definition, or for a text that is none
abbrev pub WritesDefinition : Dialect → DatabaseValue → List ℕ → Reply → DatabaseValue → Type 0
WritesDefinition d db text reply new = (said : Reply) × Replied db text None said new × Tells said.refused said.bytes (defined_text d db.schema new.schema said.bytes) reply

-- what is written for a text, and the database after it
abbrev pub Writes : Dialect → DatabaseValue → List ℕ → Reply → DatabaseValue → Type 0
Writes d db text reply new =
    ((st : Statement) × IsStatement text st × WritesStatement d db text st reply new)
    ⊎ ((fault : QueryFault) × IsTextRefusal text fault × WritesDefinition d db text reply new)
