-- What is refused changes nothing, and neither does what only asks.
use Rattle.std.proofs.Common.{◌≡◌, ℕ, true, false, List, [], Option, Ok, Err, sym, ◌∙◌, inl, inr, unwrap_or}
use Rattle.std.specs.Ordering.{nat_cmp}
use Rattle.std.specs.FinSet.{FinSet}
use Rattle.std.proofs.lemmas.Bool.{true≢false}
use Rattle.su_base.specs.declared.values.Value.{Value}
use Rattle.su_query.specs.Refs.{NamedCond}
use Rattle.su_query.specs.declared.statements.Query.{Query}
use Rattle.su_query.specs.declared.statements.Statement.{Statement}
use Rattle.su_query.specs.declared.statements.Statement.TheVariants.{Insert, Delete, DeleteWhere, Load, Print, Schema, Closure, Retrieve, Explain, Certify, Support, Compare, Window}
use Rattle.su_state.specs.declared.faults.LoadEnd.TheVariants as load
use Rattle.su_state.specs.DatabaseValue.{DatabaseValue}
use Rattle.su_window.specs.declared.faults.WindowFault.{WindowFault}
use Rattle.su_window.specs.declared.faults.WindowFault.TheVariants as fault
use Rattle.su_session.specs.declared.replies.Reply.{Reply}
use Rattle.su_session.specs.Outcomes.{Accepts}
use Rattle.su_session.specs.Reply.{RepliesDefinition, RepliesStatement, Replied, definition, statement}
use Rattle.su_session.specs.Statements.{PrintsRows, ShowsClosure, Answers}
use Rattle.su_session.specs.Retrievals.{AfterTerms, Retrieves}
use Rattle.su_session.specs.Certificates.{Certifies}
use Rattle.su_session.specs.Comparisons.{Compares}
use Rattle.su_session.specs.Windows.{TellsWindowFault, ShowsWindow}
use Rattle.su_session.specs.RowStatements.{InRelation, InsertsRow, DeletesRow, DeletesRows, LoadsRows}

module _ (db new : DatabaseValue) (reply : Reply) where
  in_relation : (name : List ℕ) (Known : ℕ → Type 0) → ((r : ℕ) → Known r → new ≡ db) → InRelation db name reply new Known → new ≡ db
  in_relation name Known known (inl (none, refuses)) = refuses.same
  in_relation name Known known (inr (r, is, does)) = known r does

  -- ---- what only asks

  after_terms : (q : Query) (Known : List (FinSet nat_cmp) → Type 0) → ((maximal : List (FinSet nat_cmp)) → Known maximal → new ≡ db) → AfterTerms db q reply new Known → new ≡ db
  after_terms q Known known (maximal, are, inl (why, cause, refuses)) = refuses.same
  after_terms q Known known (maximal, are, inr (terms, does)) = known maximal does

  retrieved : (q : Query) → Retrieves db q reply new → new ≡ db
  retrieved q (maximal, are, inl (why, cause, refuses)) = refuses.same
  retrieved q (maximal, are, inr (terms, inl (long, refuses))) = refuses.same
  retrieved q (maximal, are, inr (terms, inr shows)) = shows.1

  certified : (q : Query) → Certifies db q reply new → new ≡ db
  certified q (maximal, are, inl (why, cause, refuses)) = refuses.same
  certified q (maximal, are, inr (terms, inl (many, refuses))) = refuses.same
  certified q (maximal, are, inr (terms, inr shows)) = shows.1

  compared : (first second : Query) → Compares db first second reply new → new ≡ db
  compared first second (inl (why, cause, refuses)) = refuses.same
  compared first second (inr (formed, (maximal, are, inl (why, cause, refuses)))) = refuses.same
  compared first second (inr (formed, (maximal, are, inr (one, other, verdicts, same)))) = same

  no_window : (why : WindowFault) → TellsWindowFault db why reply new → new ≡ db
  no_window fault.Limit refuses = refuses.same
  no_window (fault.Inconsistent less greater) refuses = refuses.same
  no_window fault.NoMemory never = absurd never

  windowed : (names : List (List ℕ)) → ShowsWindow db names reply new → new ≡ db
  windowed names (inl (why, unknown, refuses)) = refuses.same
  windowed names (inr (known, inl (why, cause, tells))) = no_window why tells
  windowed names (inr (known, inr shows)) = shows.1

  closed : (names : List (List ℕ)) → ShowsClosure db names reply new → new ≡ db
  closed names (inl (why, unknown, refuses)) = refuses.same
  closed names (inr (known, shown, same)) = same

  -- ---- what is refused

  module _ (refused : reply.refused ≡ true) where
    not_both : (text : List ℕ) → Accepts text reply → ⊥
    not_both text accepts = true≢false (sym refused ∙ accepts.accepted)

    not_inserted : (row : List Value) (r : ℕ) → InsertsRow db row reply new r → new ≡ db
    not_inserted row r (Ok true, inserts, tells) = absurd (not_both _ tells)
    not_inserted row r (Ok false, inserts, tells) = absurd (not_both _ tells)
    not_inserted row r (Err why, inserts, tells) = tells.same

    not_deleted : (row : List Value) (r : ℕ) → DeletesRow db row reply new r → new ≡ db
    not_deleted row r (Ok true, deletes, tells) = absurd (not_both _ tells)
    not_deleted row r (Ok false, deletes, tells) = absurd (not_both _ tells)
    not_deleted row r (Err why, deletes, tells) = tells.same

    none_deleted : (cond : NamedCond) (r : ℕ) → DeletesRows db cond reply new r → new ≡ db
    none_deleted cond r (inl (why, cause, refuses)) = refuses.same
    none_deleted cond r (inr (known, (count, deletes, accepts))) = absurd (not_both _ accepts)

    not_loaded : (file : List ℕ) (r : ℕ) → LoadsRows db file reply new r → new ≡ db
    not_loaded file r (inl (why, cause, refuses)) = refuses.same
    not_loaded file r (inr (rows, read, (Ok count, loads, tells))) = absurd (not_both _ tells)
    not_loaded file r (inr (rows, read, (Err (load.Refused why), loads, tells))) = tells.same
    not_loaded file r (inr (rows, read, (Err load.NoMemory, loads, never))) = absurd never

    not_answered : (file : List ℕ) (st : Statement) → Answers db file st reply new → new ≡ db
    not_answered file (Insert name row) answers = in_relation name (InsertsRow db row reply new) (not_inserted row) answers
    not_answered file (Delete name row) answers = in_relation name (DeletesRow db row reply new) (not_deleted row) answers
    not_answered file (DeleteWhere name cond) answers = in_relation name (DeletesRows db cond reply new) (none_deleted cond) answers
    not_answered file (Load name path) answers = in_relation name (LoadsRows db file reply new) (not_loaded file) answers
    not_answered file (Print name) answers = in_relation name (PrintsRows db reply new) (λ r shows. shows.1) answers
    not_answered file Schema answers = answers.1
    not_answered file (Closure names) answers = closed names answers
    not_answered file (Retrieve q) answers = retrieved q answers
    not_answered file (Explain q) answers = after_terms q _ (λ maximal shows. shows.1) answers
    not_answered file (Certify q) answers = certified q answers
    not_answered file (Support q) answers = after_terms q _ (λ maximal shows. shows.1) answers
    not_answered file (Compare first second) answers = compared first second answers
    not_answered file (Window names) answers = windowed names answers

    not_added : (text : List ℕ) → RepliesDefinition db text reply new → new ≡ db
    not_added text (inl (none, refuses)) = refuses.same
    not_added text (inr (d, is, (Ok _, defines, accepts))) = absurd (not_both _ accepts)
    not_added text (inr (d, is, (Err why, defines, refuses))) = refuses.same

    not_stated : (text file : List ℕ) → RepliesStatement db text file reply new → new ≡ db
    not_stated text file (inl (why, cause, refuses)) = refuses.same
    not_stated text file (inr (st, is, few, answers)) = not_answered file st answers

-- a refused reply leaves the database as it was
pub refused_same : (db new : DatabaseValue) (text : List ℕ) (file : Option (List ℕ)) (reply : Reply) → Replied db text file reply new → reply.refused ≡ true → new ≡ db
refused_same db new text file reply (definition defining replied) refused = not_added db new reply refused text replied
refused_same db new text file reply (statement other replied) refused = not_stated db new reply refused text (unwrap_or file []) replied

-- the statements that change no rows
abbrev pub Asks : Statement → Type 0
Asks (Insert name row) = ⊥
Asks (Delete name row) = ⊥
Asks (DeleteWhere name cond) = ⊥
Asks (Load name path) = ⊥
Asks _ = Unit {0}

pub asks_same : (db new : DatabaseValue) (file : List ℕ) (st : Statement) (reply : Reply) → Asks st → Answers db file st reply new → new ≡ db
asks_same db new file (Insert name row) reply asks answers = absurd asks
asks_same db new file (Delete name row) reply asks answers = absurd asks
asks_same db new file (DeleteWhere name cond) reply asks answers = absurd asks
asks_same db new file (Load name path) reply asks answers = absurd asks
asks_same db new file (Print name) reply asks answers = in_relation db new reply name (PrintsRows db reply new) (λ r shows. shows.1) answers
asks_same db new file Schema reply asks answers = answers.1
asks_same db new file (Closure names) reply asks answers = closed db new reply names answers
asks_same db new file (Retrieve q) reply asks answers = retrieved db new reply q answers
asks_same db new file (Explain q) reply asks answers = after_terms db new reply q _ (λ maximal shows. shows.1) answers
asks_same db new file (Certify q) reply asks answers = certified db new reply q answers
asks_same db new file (Support q) reply asks answers = after_terms db new reply q _ (λ maximal shows. shows.1) answers
asks_same db new file (Compare first second) reply asks answers = compared db new reply first second answers
asks_same db new file (Window names) reply asks answers = windowed db new reply names answers
