-- The selects of the kept terms give the answers of the query.
use Rattle.std.proofs.Common.{◌↔◌, ℕ, List, Contains, sym, subst}
use Rattle.std.specs.List.{AllZip}
use Rattle.std.specs.Ordering.{nat_cmp}
use Rattle.std.specs.FinSet.{FinSet}
use Rattle.su_base.specs.declared.values.Value.{Value}
use Rattle.su_tableau.specs.Tableaux.{IsValid}
use Rattle.su_schema.specs.SchemaValue.{SchemaValue}
use Rattle.su_schema.specs.Valid as schemas
use Rattle.su_query.specs.declared.resolving.Resolved.{Resolved}
use Rattle.su_state.specs.DatabaseValue.{DatabaseValue}
use Rattle.su_min.specs.Kept.{Minimised}
use Rattle.su_min.specs.Reduction.{term_at}
use Rattle.su_answer.specs.declared.preparing.Prepared.{Prepared}
use Rattle.su_answer.specs.Prepared.{IsPrepared}
use Rattle.su_answer.specs.Answers.{IsTermAnswer}
use Rattle.su_answer.proofs.PairedLists.{zip_first, zip_second}
use Rattle.su_sql.specs.declared.tables.Select.{Select}
use Rattle.su_sql.specs.Selects.{IsSelected}
use Rattle.su_sql.specs.Stored.{AreStored}
use Rattle.su_sql.specs.TermSelects.{IsSelectOf}
use Rattle.su_sql.specs.Meaning.{MeanAnswers, GiveAnswer}
use Rattle.su_sql.proofs.Choices.{selected_is_output}
use Rattle.su_sql.proofs.Stored.{outputs_are_answers}

-- one select gives the answers of its term
select_means : (db : DatabaseValue) (m : Minimised) (s : Select) (h : List Value) → schemas.IsValid db.schema → AreStored db → IsValid m.tableau → IsSelectOf db.schema m s → IsSelected db.tables s h ↔ IsTermAnswer db m h
select_means db m s h schema_valid stored valid is =
    let a = selected_is_output db.tables is.task is.joined h in
    let b = outputs_are_answers db m.tableau m.mask is.task schema_valid stored valid is.is_task h in
    (λ x. b.0 (a.0 (subst (λ (y : Select). IsSelected db.tables y h) is.is x)), λ y. subst (λ (z : Select). IsSelected db.tables z h) (sym is.is) (a.1 (b.1 y)))

pub mean_answers : (schema : SchemaValue) (p : Prepared) (selects : List Select) → schemas.IsValid schema → ((k : ℕ) → Contains p.reduced.kept k → IsValid (term_at p.minimals k).tableau)
    → AllZip (λ k s. IsSelectOf schema (term_at p.minimals k) s) p.reduced.kept selects → MeanAnswers schema p selects
mean_answers schema p selects schema_valid valid zip db same stored h =
    let here : schemas.IsValid db.schema = subst schemas.IsValid (sym same) schema_valid in
    let means : (k : ℕ) (s : Select) → Contains p.reduced.kept k → IsSelectOf schema (term_at p.minimals k) s → IsSelected db.tables s h ↔ IsTermAnswer db (term_at p.minimals k) h = λ k s c is.
    select_means db (term_at p.minimals k) s h here stored (valid k c) (subst (λ (x : SchemaValue). IsSelectOf x (term_at p.minimals k) s) (sym same) is) in (
      λ u.
          let w = zip_second (λ k s. IsSelectOf schema (term_at p.minimals k) s) p.reduced.kept selects u.select zip u.is_one in
          record { term = w.0; kept = w.1; answer = (means w.0 u.select w.1 w.2).0 u.selected },
      λ a.
          let w = zip_first (λ k s. IsSelectOf schema (term_at p.minimals k) s) p.reduced.kept selects a.term zip a.kept in
          record { select = w.0; is_one = w.1; selected = (means a.term w.0 a.kept w.2).1 a.answer },
    )

-- the rows of selects that mean the answers are the answer
pub give_answer : (schema : SchemaValue) (maximal : List (FinSet nat_cmp)) (q : Resolved) (p : Prepared) (selects : List Select) → IsPrepared schema maximal q p → MeanAnswers schema p selects → GiveAnswer schema maximal q selects
give_answer schema maximal q p selects is means db rows same stored are = record {
  prepared = p;
  is_prepared = subst (λ (s : SchemaValue). IsPrepared s maximal q p) (sym same) is;
  answers = record {
    exact = λ h.
        let a = are.exact h in
        let b = means db same stored h in
        (λ x. b.0 (a.0 x), λ y. a.1 (b.1 y));
    ascending = are.ascending;
  };
}
