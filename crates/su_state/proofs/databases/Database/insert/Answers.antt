-- The answer that a new row may be put in says that it fits and breaks nothing; so the table with it keeps every dependency, and one refused leaves all as it was.
use Rattle.std.proofs.Common.{◌≡◌, ◌<◌, ◌∙◌, inl, refl, length, take, Bool, Ok, true, subst, sym}
use Rattle.su_state.specs.DatabaseValue.{DatabaseValue, rows_of}
use Rattle.su_state.specs.RowChanges.{InsertAnswers}
use Rattle.su_state.proofs.Kept.{with_table, has_table, table_read, unchanged_with, kept_inserted, inserted, front_kept}
use Rattle.su_state.proofs.databases.Database.insert.Goals as goal
use Rattle.su_state.proofs.databases.Database.insert.Goals.{in-Ok, in-Err}

pub invariant_of-self : goal.invariant_of-self
invariant_of-self c =
    let db : DatabaseValue = record { schema = c.self.inside.schema; tables = c.self.inside.tables.items } in
    let within : c.args.relation < length db.tables = has_table db c.args.self.now c.args.relation c.self.view_is c.self.invariant c.requires in
    let now : InsertAnswers c.args.self.now c.args.relation c.args.row (Ok true) = subst (λ (b : Bool). InsertAnswers c.args.self.now c.args.relation c.args.row (Ok b)) c.if-not-branch.false c.in_ok-insert_answer.ensures.answer in
    let answers : InsertAnswers db c.args.relation c.args.row (Ok true) = subst (λ (d : DatabaseValue). InsertAnswers d c.args.relation c.args.row (Ok true)) (sym c.self.view_is) now in
    kept_inserted db c.args.relation c.args.row c.index_mut.result.now c.insert.new.self c.self.invariant within c.index_mut.ensures.value c.insert.ensures.width answers c.insert.result c.insert.ensures.ok c.insert.ensures.unchanged

pub returns-clause-done : goal.returns-clause-done
returns-clause-done c =
    let db : DatabaseValue = record { schema = c.self.inside.schema; tables = c.self.inside.tables.items } in
    let within : c.args.relation < length db.tables = has_table db c.args.self.now c.args.relation c.self.view_is c.self.invariant c.requires in
    let now : InsertAnswers c.args.self.now c.args.relation c.args.row (Ok true) = subst (λ (b : Bool). InsertAnswers c.args.self.now c.args.relation c.args.row (Ok b)) c.if-not-branch.false c.in_ok-insert_answer.ensures.answer in
    let answers : InsertAnswers db c.args.relation c.args.row (Ok true) = subst (λ (d : DatabaseValue). InsertAnswers d c.args.relation c.args.row (Ok true)) (sym c.self.view_is) now in
    elim c.match-insert.branch [
      | in-Ok w ↦ rw (w.result-is, ← c.self.view_is) (inserted db c.args.relation c.args.row c.index_mut.result.now c.insert.new.self c.self.invariant within c.index_mut.ensures.value c.insert.ensures.width answers w.in-Ok.field-0 w.in-Ok.ensures.ok)
      | in-Err w ↦ rw w.result-is tt
    ]

pub returns-clause-refused : goal.returns-clause-refused
returns-clause-refused c =
    elim c.match-insert.branch [
      | in-Ok w ↦ rw w.result-is tt
      | in-Err w ↦ rw w.result-is (inl refl)
    ]

pub returns-clause-unchanged : goal.returns-clause-unchanged
returns-clause-unchanged c =
    let db : DatabaseValue = record { schema = c.self.inside.schema; tables = c.self.inside.tables.items } in
    let within : c.args.relation < length db.tables = has_table db c.args.self.now c.args.relation c.self.view_is c.self.invariant c.requires in
    elim c.match-insert.branch [
      | in-Ok w ↦ rw w.result-is tt
      | in-Err w ↦ rw w.result-is (unchanged_with db c.args.relation c.insert.new.self (w.in-Err.ensures.unchanged ∙ table_read db c.args.relation c.index_mut.result.now within c.index_mut.ensures.value) ∙ c.self.view_is)
    ]

pub returns-clause-front : goal.returns-clause-front
returns-clause-front c =
    let db : DatabaseValue = record { schema = c.self.inside.schema; tables = c.self.inside.tables.items } in
    let new : DatabaseValue = with_table db c.args.relation c.insert.new.self in
    let within : c.args.relation < length db.tables = has_table db c.args.self.now c.args.relation c.self.view_is c.self.invariant c.requires in
    let now : InsertAnswers c.args.self.now c.args.relation c.args.row (Ok true) = subst (λ (b : Bool). InsertAnswers c.args.self.now c.args.relation c.args.row (Ok b)) c.if-not-branch.false c.in_ok-insert_answer.ensures.answer in
    let answers : InsertAnswers db c.args.relation c.args.row (Ok true) = subst (λ (d : DatabaseValue). InsertAnswers d c.args.relation c.args.row (Ok true)) (sym c.self.view_is) now in
    subst (λ (d : DatabaseValue). take (length (rows_of d c.args.relation)) (rows_of new c.args.relation) ≡ rows_of d c.args.relation) c.self.view_is
    (front_kept db c.args.relation c.args.row c.index_mut.result.now c.insert.new.self c.self.invariant within c.index_mut.ensures.value c.insert.ensures.width answers c.insert.result c.insert.ensures.ok c.insert.ensures.unchanged)
