-- What an accepted command makes, by what it is.
use Rattle.std.proofs.Common.{◌≡◌, ℕ, true, false, List, [], ◌∷◌, Option, Some, None, Result, Ok, Err, sym, ap, ◌∙◌, subst, inl, inr, unwrap_or, Contains}
use Rattle.std.proofs.lemmas.Option.{none-some, same_Some}
use Rattle.su_base.specs.declared.values.Value.{Value}
use Rattle.su_schema.specs.declared.definitions.Definition.{Definition as ADefinition}
use Rattle.su_csv.specs.declared.faults.CsvFault.{CsvFault}
use Rattle.su_csv.specs.File.{reading}
use Rattle.su_query.specs.declared.faults.QueryFault.{QueryFault}
use Rattle.su_query.specs.declared.statements.Statement.{Statement as AStatement}
use Rattle.su_query.specs.Refs.{NamedCond}
use Rattle.su_query.specs.Lookup.{IsColumnRefusal}
use Rattle.su_query.specs.NumberedConditions.{with_columns}
use Rattle.su_state.specs.declared.faults.LoadEnd.TheVariants as load
use Rattle.su_state.specs.DatabaseValue.{DatabaseValue, rows_of, columns_of}
use Rattle.su_state.specs.Loads.{InsertsAll}
use Rattle.su_once.proofs.OneOutcome.{not_refused}
use Rattle.su_session.specs.declared.commands.Command.TheVariants.{Definition, Statement, Refused}
use Rattle.su_session.specs.declared.replies.Reply.{Reply}
use Rattle.su_session.specs.Commands.{IsRead}
use Rattle.su_session.specs.Reply.{Replied, definition, statement}
use Rattle.su_session.specs.Statements.{Answers}
use Rattle.su_session.specs.RowStatements.{relation_number, InRelation, InsertsRow, DeletesRow, DeletesRows, LoadsRows}
use Rattle.su_session.proofs.ShownQueries.{told, statement_answered}
use Rattle.su_changes.specs.Changes.{LeadTo}
use Rattle.su_changes.proofs.Leading.{LeadTo-self}
use Rattle.su_effects.specs.declared.effects.Effect.{Effect}
use Rattle.su_effects.specs.declared.effects.Effect.TheVariants.{Nothing, Defines}
use Rattle.su_effects.specs.Effects.{Makes, IsEffect}
use Rattle.su_effects.specs.inside.Statements.{MakesWhere, IsChange, AreNewOf, AreMet}
use Rattle.su_effects.proofs.Unchanged.{refused_same, Asks, asks_same}
use Rattle.su_effects.proofs.PutRows.{row_put, all_put, put_leads}
use Rattle.su_effects.proofs.TakenRows.{removed_leads, met_leads}
use Rattle.su_effects.proofs.Definitions.{defined_leads, defined_extends}

abbrev Row : Type 0
Row = List Value

pub nothing_made : (db new : DatabaseValue) → new ≡ db → Makes Nothing db new
nothing_made db new same = (subst (λ (d : DatabaseValue). LeadTo db [] d) (sym same) (LeadTo-self db), ap (λ (d : DatabaseValue). d.schema) same)

-- ---- commands

module _ (db new : DatabaseValue) (text : List ℕ) (file : Option (List ℕ)) (reply : Reply) where
  module _ (accepted : reply.refused ≡ false) where
    definition_made : (d : ADefinition) → IsRead text (Definition d) → Replied db text file reply new → Makes Defines db new
    definition_made d read (definition defining (inl (none, refuses))) = absurd (told db new _ reply refuses accepted)
    definition_made d read (definition defining (inr (other, is, (Ok unit, defines, tells)))) = (defined_leads db new other unit defines, defined_extends db new other unit defines)
    definition_made d read (definition defining (inr (other, is, (Err why, defines, refuses)))) = absurd (told db new _ reply refuses accepted)
    definition_made d read (statement other replied) = absurd (other read.0)

    none_made : (why : QueryFault) → IsRead text (Refused why) → Replied db text file reply new → ⊥
    none_made why (inl (defining, cause, none)) (definition also (inl (formless, refuses))) = told db new _ reply refuses accepted
    none_made why (inl (defining, cause, none)) (definition also (inr (d, is, adds))) = none d is
    none_made why (inl (defining, cause, none)) (statement other replied) = other defining
    none_made why (inr (other, cause)) (definition defining replied) = other defining
    none_made why (inr (other, cause)) (statement also (inl (fault, again, refuses))) = told db new _ reply refuses accepted
    none_made why (inr (other, cause)) (statement also (inr (st, is, few, answers))) = not_refused text why st cause is few

  pub definition_effect : (d : ADefinition) → IsRead text (Definition d) → Replied db text file reply new → IsEffect Defines reply db new
  definition_effect d read replied = record {
    refused = refused_same db new text file reply replied;
    accepted = λ accepted. definition_made accepted d read replied;
  }

  pub refused_effect : (why : QueryFault) → IsRead text (Refused why) → Replied db text file reply new → IsEffect Nothing reply db new
  refused_effect why read replied = record {
    refused = refused_same db new text file reply replied;
    accepted = λ accepted. absurd (none_made accepted why read replied);
  }

  pub statement_effect : (st : AStatement) (effect : Effect) → IsRead text (Statement st) → MakesWhere effect db (λ r d. Answers db (unwrap_or file []) st r d) → Replied db text file reply new → IsEffect effect reply db new
  statement_effect st effect read makes replied = record {
    refused = refused_same db new text file reply replied;
    accepted = λ accepted. makes reply new (statement_answered db new text file st reply read.1 replied accepted) accepted;
  }

pub asking_makes : (db : DatabaseValue) (file : List ℕ) (st : AStatement) → Asks st → MakesWhere Nothing db (λ r d. Answers db file st r d)
asking_makes db file st asks reply new answers accepted = nothing_made db new (asks_same db new file st reply asks answers)

-- ---- statements on a relation

module _ (db : DatabaseValue) (name : List ℕ) (effect : Effect) (Known : Reply → DatabaseValue → ℕ → Type 0) where
  pub unknown_makes : relation_number db name ≡ None → MakesWhere effect db (λ reply new. InRelation db name reply new (Known reply new))
  unknown_makes none reply new (inl (same, refuses)) accepted = absurd (told db new _ reply refuses accepted)
  unknown_makes none reply new (inr (r, is, does)) accepted = absurd (none-some r (sym none ∙ is))

  pub known_makes : (r : ℕ) → relation_number db name ≡ Some r → MakesWhere effect db (λ reply new. Known reply new r) → MakesWhere effect db (λ reply new. InRelation db name reply new (Known reply new))
  known_makes r is makes reply new (inl (same, refuses)) accepted = absurd (told db new _ reply refuses accepted)
  known_makes r is makes reply new (inr (s, also, does)) accepted = makes reply new (subst (Known reply new) (same_Some s r (sym also ∙ is)) does) accepted

module _ (db : DatabaseValue) (r : ℕ) where
  pub insert_makes : (row : Row) (kept : List Row) (effect : Effect) → AreNewOf (rows_of db r) (row ∷ []) kept → IsChange r kept true effect → MakesWhere effect db (λ reply new. InsertsRow db row reply new r)
  insert_makes row kept effect are change reply new (Ok is_new, inserts, tells) accepted =
      let put = row_put r row is_new db new inserts in change db new (put_leads r (row ∷ []) kept db new are put) put.stays.schema
  insert_makes row kept effect are change reply new (Err why, inserts, refuses) accepted = absurd (told db new _ reply refuses accepted)

  pub load_makes : (file : List ℕ) (rows kept : List Row) (effect : Effect) → reading (columns_of db r) file ≡ Ok rows → AreNewOf (rows_of db r) rows kept → IsChange r kept true effect → MakesWhere effect db (λ reply new. LoadsRows db file reply new r)
  load_makes file rows kept effect read are change reply new (inl (why, cause, refuses)) accepted = absurd (told db new _ reply refuses accepted)
  load_makes file rows kept effect read are change reply new (inr (others, also, (Ok count, loads, tells))) accepted =
      let same : others ≡ rows = (let both : ◌≡◌ {A = Result (List Row) CsvFault} (Ok others) (Ok rows) = sym also ∙ read in cc) in
      let put = all_put r rows count db new (subst (λ (all : List Row). InsertsAll db r all count new) same loads) in
      change db new (put_leads r rows kept db new are put) put.stays.schema
  load_makes file rows kept effect read are change reply new (inr (others, also, (Err (load.Refused why), loads, refuses))) accepted = absurd (told db new _ reply refuses accepted)
  load_makes file rows kept effect read are change reply new (inr (others, also, (Err load.NoMemory, loads, never))) accepted = absurd never

  pub unread_makes : (file : List ℕ) (why : CsvFault) (effect : Effect) → reading (columns_of db r) file ≡ Err why → MakesWhere effect db (λ reply new. LoadsRows db file reply new r)
  unread_makes file why effect read reply new (inl (other, cause, refuses)) accepted = absurd (told db new _ reply refuses accepted)
  unread_makes file why effect read reply new (inr (rows, also, does)) accepted =
      absurd (let both : ◌≡◌ {A = Result (List Row) CsvFault} (Ok rows) (Err why) = sym also ∙ read in cc)

  pub delete_makes : (row : Row) (effect : Effect) → Contains (rows_of db r) row → IsChange r (row ∷ []) false effect → MakesWhere effect db (λ reply new. DeletesRow db row reply new r)
  delete_makes row effect has change reply new (Ok true, deletes, tells) accepted = change db new (removed_leads r row db new deletes.1) deletes.1.only.schema
  delete_makes row effect has change reply new (Ok false, deletes, tells) accepted = absurd (deletes.0.1 has)
  delete_makes row effect has change reply new (Err why, deletes, refuses) accepted = absurd (told db new _ reply refuses accepted)

  pub absent_makes : (row : Row) → ¬ Contains (rows_of db r) row → MakesWhere Nothing db (λ reply new. DeletesRow db row reply new r)
  absent_makes row none reply new (Ok true, deletes, tells) accepted = absurd (none deletes.0.1)
  absent_makes row none reply new (Ok false, deletes, tells) accepted = nothing_made db new deletes.1
  absent_makes row none reply new (Err why, deletes, refuses) accepted = absurd (told db new _ reply refuses accepted)

  pub met_makes : (cond : NamedCond) (met : List Row) (effect : Effect) → AreMet (with_columns db.schema r cond) (rows_of db r) met → IsChange r met false effect → MakesWhere effect db (λ reply new. DeletesRows db cond reply new r)
  met_makes cond met effect are change reply new (inl (why, cause, refuses)) accepted = absurd (told db new _ reply refuses accepted)
  met_makes cond met effect are change reply new (inr (known, (count, deletes, tells))) accepted =
      change db new (met_leads r (with_columns db.schema r cond) count met db new are deletes) deletes.only.schema

  pub unmet_makes : (cond : NamedCond) (why : QueryFault) (effect : Effect) → IsColumnRefusal db.schema r cond why → MakesWhere effect db (λ reply new. DeletesRows db cond reply new r)
  unmet_makes cond why effect refusal reply new (inl (other, cause, refuses)) accepted = absurd (told db new _ reply refuses accepted)
  unmet_makes cond why effect refusal reply new (inr (known, does)) accepted = absurd (none-some why (sym known ∙ refusal))
