-- The session's database is the one inside it, so the reply to each kind of statement, made over the inner one, is the session's reply.
use Rattle.std.proofs.Common.{List, IfOk, sym, subst}
use Rattle.su_base.specs.declared.values.Value.{Value}
use Rattle.su_query.specs.declared.statements.Statement.{Statement}
use Rattle.su_state.specs.DatabaseValue.{DatabaseValue}
use Rattle.su_session.specs.Statements.{Answers}
use Rattle.su_session.specs.RowStatements.{InRelation, InsertsRow, DeletesRows}
use Rattle.su_session.specs.Comparisons.{Compares}
use Rattle.su_session.proofs.sessions.Session.answer.Goals as goal

pub returns-in-Insert-clause-replied : goal.returns-in-Insert-clause-replied
returns-in-Insert-clause-replied g c =
    let old : DatabaseValue = c.args.self.now in
    let new : DatabaseValue = c.insert.new.db in
    let P : DatabaseValue → List Value → Type 0 = λ db row. IfOk c.insert.result (λ reply. InRelation db c.in-Insert.relation reply new (InsertsRow db row reply new)) in
    subst (λ (st : Statement). IfOk c.insert.result (λ reply. Answers old c.args.file.now st reply new)) (sym c.in-Insert.is)
    (subst (P old) c.replace-row.ensures.value (subst (λ (db : DatabaseValue). P db c.replace-row.result) c.self.view_is c.insert.ensures.replied))

pub returns-in-DeleteWhere-clause-replied : goal.returns-in-DeleteWhere-clause-replied
returns-in-DeleteWhere-clause-replied g c =
    let old : DatabaseValue = c.args.self.now in
    let new : DatabaseValue = c.delete_where.new.db in
    subst (λ (st : Statement). IfOk c.delete_where.result (λ reply. Answers old c.args.file.now st reply new)) (sym c.in-DeleteWhere.is)
    (subst (λ (db : DatabaseValue). IfOk c.delete_where.result (λ reply. InRelation db c.in-DeleteWhere.relation reply new (DeletesRows db c.in-DeleteWhere.cond reply new))) c.self.view_is c.delete_where.ensures.replied)

pub returns-in-Compare-clause-replied : goal.returns-in-Compare-clause-replied
returns-in-Compare-clause-replied g c =
    let old : DatabaseValue = c.args.self.now in
    subst (λ (st : Statement). IfOk c.compare.result (λ reply. Answers old c.args.file.now st reply old)) (sym c.in-Compare.is)
    (subst (λ (db : DatabaseValue). IfOk c.compare.result (λ reply. Compares db c.in-Compare.first c.in-Compare.second reply db)) c.self.view_is c.compare.ensures)
