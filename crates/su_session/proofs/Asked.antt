-- What was read is what the text asks for.
use Rattle.std.proofs.Common.{◌≡◌, ◌≢◌, ℕ, false, List, None, Option, unwrap_or, [], inl, inr, sym, ap, ◌∙◌, subst}
use Rattle.std.proofs.lemmas.Bool.{false≢true}
use Rattle.su_lex.specs.declared.meaning.Symbol.{Symbol}
use Rattle.su_lex.proofs.Written.{one_list_of_symbols}
use Rattle.su_schema.specs.declared.definitions.Definition.{Definition as ADefinition}
use Rattle.su_query.specs.declared.faults.QueryFault.{QueryFault}
use Rattle.su_query.specs.declared.statements.Statement.{Statement as AStatement}
use Rattle.su_query.specs.declared.statements.Statement.TheVariants.{Insert, Delete, DeleteWhere, Load, Print, Schema, Closure, Retrieve, Explain, Certify, Support, Compare, Window}
use Rattle.su_query.specs.Forms.{IsForm}
use Rattle.su_query.specs.StatementTexts.{IsStatement, IsReady}
use Rattle.su_query.proofs.Ready.{form_ready}
use Rattle.su_query.proofs.Uniqueness.{statement_unique}
use Rattle.su_state.specs.DatabaseValue.{DatabaseValue}
use Rattle.su_show.specs.declared.statement_refusal.Refusal.TheVariants.{Query}
use Rattle.su_session.specs.declared.commands.Command.{Command}
use Rattle.su_session.specs.declared.commands.Command.TheVariants.{Definition, Statement, Refused}
use Rattle.su_session.specs.declared.replies.Reply.{Reply}
use Rattle.su_session.specs.Commands.{IsRead}
use Rattle.su_session.specs.Reply.{AddsDefinition, Replied, definition, statement, IsDefining, begins_definition}
use Rattle.su_session.specs.WantedFiles.{IsLoad}
use Rattle.su_session.specs.Statements.{Answers}
use Rattle.su_session.specs.RowStatements.{relation_number}
use Rattle.su_session.specs.Outcomes.{Refuses}
use Rattle.su_session.proofs.Loads.{refused_wants_nothing, other_wants_nothing, unknown_wants_nothing}

-- ---- no statement begins as a definition

form_begins : (st : AStatement) (s : List Symbol) → IsForm st s → begins_definition s ≡ false
form_begins (Insert relation row) s form = ap begins_definition form.2
form_begins (Delete relation row) s form = ap begins_definition form.2
form_begins (DeleteWhere relation cond) s form = ap begins_definition form.4
form_begins (Load relation file) s form = ap begins_definition form.1
form_begins (Print relation) s form = ap begins_definition form.1
form_begins Schema s form = ap begins_definition form
form_begins (Closure names) s form = ap begins_definition form.1
form_begins (Retrieve q) s form = ap begins_definition form.whole
form_begins (Explain q) s form = ap begins_definition form.2
form_begins (Certify q) s form = ap begins_definition form.2
form_begins (Support q) s form = ap begins_definition form.2
form_begins (Compare first second) s form = ap begins_definition form.4
form_begins (Window names) s form = ap begins_definition form.1

pub no_definition : (text : List ℕ) (st : AStatement) → IsStatement text st → ¬ IsDefining text
no_definition text st is (symbols, spelled, begins) =
    let same = (one_list_of_symbols text is.symbols symbols is.spelled spelled).0 in
    false≢true (sym (form_begins st is.symbols is.form) ∙ ap begins_definition same ∙ begins)

pub ready : (text : List ℕ) (st : AStatement) → IsStatement text st → IsReady st
ready text st is = form_ready st is.symbols is.form

-- ---- the reply to what was read is that to the text

module _ (db new : DatabaseValue) (text : List ℕ) (file : Option (List ℕ)) (reply : Reply) where
  pub replied_definition : (d : ADefinition) → IsRead text (Definition d) → AddsDefinition db d reply new → Replied db text file reply new
  replied_definition d is adds = definition is.0 (inr (d, is.1, adds))

  pub replied_statement : (st : AStatement) → IsRead text (Statement st) → Answers db (unwrap_or file []) st reply new → Replied db text file reply new
  replied_statement st is answers = statement is.0 (inr (st, is.1, is.2, answers))

  pub replied_refusal : (fault : QueryFault) → IsRead text (Refused fault) → Refuses db (Query fault) reply new → Replied db text file reply new
  replied_refusal fault (inl (defining, syntax, none)) refuses = definition defining (inl (none, subst (λ (f : QueryFault). Refuses db (Query f) reply new) syntax refuses))
  replied_refusal fault (inr (other, refusal)) refuses = statement other (inl (fault, refusal, refuses))

-- ---- the file that it wants is that of the text

module _ (db : DatabaseValue) (text : List ℕ) where
  pub wants_nothing : (command : Command) → ((name path : List ℕ) → command ≢ Statement (Load name path)) → IsRead text command → (path : List ℕ) → ¬ IsLoad db text path
  wants_nothing (Definition d) none is path (name, r, load, known) = no_definition text (Load name path) load is.0
  wants_nothing (Statement st) none is path load = other_wants_nothing db text st (λ other h. statement_unique text st other is.1 h) (λ name file e. none name file (ap Statement e)) path load
  wants_nothing (Refused fault) none (inl h) path (name, r, load, known) = no_definition text (Load name path) load h.0
  wants_nothing (Refused fault) none (inr h) path load = refused_wants_nothing db text fault h.1 path load

  pub unknown_wants : (command : Command) (relation file : List ℕ) → command ≡ Statement (Load relation file) → relation_number db relation ≡ None → IsRead text command → (path : List ℕ) → ¬ IsLoad db text path
  unknown_wants command relation file e unknown is path load =
      let here : IsRead text (Statement (Load relation file)) = subst (IsRead text) e is in
      unknown_wants_nothing db text relation file (λ other h. statement_unique text (Load relation file) other here.1 h) unknown path load
