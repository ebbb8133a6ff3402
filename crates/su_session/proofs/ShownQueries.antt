-- A query is no definition, and its reply shows what it asks for unless it is refused.
use Rattle.std.proofs.Common.{◌≡◌, ℕ, false, List, Option, sym, ◌∙◌, subst, inl, inr}
use Rattle.std.specs.Prelude.{unwrap_or, []}
use Rattle.std.specs.Ordering.{nat_cmp}
use Rattle.std.specs.FinSet.{FinSet}
use Rattle.std.proofs.lemmas.Bool.{false≢true}
use Rattle.su_query.specs.declared.statements.Query.{Query as AQuery}
use Rattle.su_query.specs.declared.statements.Statement.{Statement}
use Rattle.su_query.specs.declared.statements.Statement.TheVariants.{Insert, Delete, DeleteWhere, Load, Print, Schema, Closure, Retrieve, Explain, Certify, Support, Compare, Window}
use Rattle.su_query.specs.StatementTexts.{IsStatement}
use Rattle.su_query.proofs.Uniqueness.{statement_unique}
use Rattle.su_state.specs.DatabaseValue.{DatabaseValue}
use Rattle.su_window.specs.declared.faults.WindowFault.{WindowFault}
use Rattle.su_window.specs.declared.faults.WindowFault.TheVariants as fault
use Rattle.su_show.specs.declared.statement_refusal.Refusal.{Refusal}
use Rattle.su_session.specs.declared.replies.Reply.{Reply}
use Rattle.su_session.specs.Outcomes.{Refuses}
use Rattle.su_session.specs.Reply.{RepliesStatement, Replied, definition, statement}
use Rattle.su_session.specs.Statements.{Answers}
use Rattle.su_session.specs.Retrievals.{AfterTerms, Retrieves}
use Rattle.su_session.specs.Certificates.{Certifies}
use Rattle.su_session.specs.Windows.{TellsWindowFault, ShowsWindow}
use Rattle.su_session.specs.Laws.{TermsAreShown, QueryIsShown}
use Rattle.su_session.proofs.Asked.{no_definition}

-- a refusal says that it is one
pub told : (db new : DatabaseValue) (why : Refusal) (reply : Reply) → Refuses db why reply new → reply.refused ≡ false → ⊥
told db new why reply refuses accepted = false≢true (sym accepted ∙ refuses.refused)

-- what a text is answered with that is this statement, and not refused
answered : (db new : DatabaseValue) (text file : List ℕ) (st : Statement) (reply : Reply) → IsStatement text st → RepliesStatement db text file reply new → reply.refused ≡ false → Answers db file st reply new
answered db new text file st reply is (inl (fault, cause, refuses)) accepted = absurd (told db new _ reply refuses accepted)
answered db new text file st reply is (inr (other, read, few, answers)) accepted =
    subst (λ (s : Statement). Answers db file s reply new) (statement_unique text st other is read) answers

pub statement_answered : (db new : DatabaseValue) (text : List ℕ) (file : Option (List ℕ)) (st : Statement) (reply : Reply) → IsStatement text st → Replied db text file reply new → reply.refused ≡ false → Answers db (unwrap_or file []) st reply new
statement_answered db new text file st reply is (definition defining replied) accepted = absurd (no_definition text st is defining)
statement_answered db new text file st reply is (statement other replied) accepted = answered db new text (unwrap_or file []) st reply is replied accepted

module _ (db new : DatabaseValue) (reply : Reply) (accepted : reply.refused ≡ false) where
  -- of a query that has terms this is shown
  terms_shown : (q : AQuery) (Shows : List (FinSet nat_cmp) → Type 0) → AfterTerms db q reply new (λ maximal. Shows maximal × (new ≡ db)) → TermsAreShown db q new Shows
  terms_shown q Shows (maximal, are, inl (why, cause, refuses)) = absurd (told db new why reply refuses accepted)
  terms_shown q Shows (maximal, are, inr (terms, shows)) = record { maximal = maximal; are_maximal = are; terms = terms; shows = shows.0; same = shows.1 }

  retrieved : (q : AQuery) → Retrieves db q reply new → QueryIsShown db (Retrieve q) reply new
  retrieved q (maximal, are, inl (why, cause, refuses)) = absurd (told db new why reply refuses accepted)
  retrieved q (maximal, are, inr (terms, inl (long, refuses))) = absurd (told db new _ reply refuses accepted)
  retrieved q (maximal, are, inr (terms, inr shows)) = record { maximal = maximal; are_maximal = are; terms = terms; shows = shows.0; same = shows.1 }

  certified : (q : AQuery) → Certifies db q reply new → QueryIsShown db (Certify q) reply new
  certified q (maximal, are, inl (why, cause, refuses)) = absurd (told db new why reply refuses accepted)
  certified q (maximal, are, inr (terms, inl (many, refuses))) = absurd (told db new _ reply refuses accepted)
  certified q (maximal, are, inr (terms, inr shows)) = record { maximal = maximal; are_maximal = are; terms = terms; shows = shows.0; same = shows.1 }

  no_window_fault : (why : WindowFault) → TellsWindowFault db why reply new → ⊥
  no_window_fault fault.Limit refuses = told db new _ reply refuses accepted
  no_window_fault (fault.Inconsistent less greater) refuses = told db new _ reply refuses accepted
  no_window_fault fault.NoMemory never = never

  windowed : (names : List (List ℕ)) → ShowsWindow db names reply new → QueryIsShown db (Window names) reply new
  windowed names (inl (why, unknown, refuses)) = absurd (told db new _ reply refuses accepted)
  windowed names (inr (known, inl (why, cause, tells))) = absurd (no_window_fault why tells)
  windowed names (inr (known, inr shows)) = shows

  shown : (st : Statement) (file : List ℕ) → Answers db file st reply new → QueryIsShown db st reply new
  shown (Insert relation row) file answers = tt
  shown (Delete relation row) file answers = tt
  shown (DeleteWhere relation cond) file answers = tt
  shown (Load relation path) file answers = tt
  shown (Print relation) file answers = tt
  shown Schema file answers = tt
  shown (Closure names) file answers = tt
  shown (Retrieve q) file answers = retrieved q answers
  shown (Explain q) file answers = terms_shown q _ answers
  shown (Certify q) file answers = certified q answers
  shown (Support q) file answers = terms_shown q _ answers
  shown (Compare first second) file answers = tt
  shown (Window names) file answers = windowed names answers

pub queries_shown : (db new : DatabaseValue) (text : List ℕ) (file : Option (List ℕ)) (st : Statement) (reply : Reply) → IsStatement text st → Replied db text file reply new → reply.refused ≡ false → QueryIsShown db st reply new
queries_shown db new text file st reply is replied accepted = shown db new reply accepted st (unwrap_or file []) (statement_answered db new text file st reply is replied accepted)
