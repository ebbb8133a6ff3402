-- The statement is the one of its arm.
use Rattle.std.proofs.Common.{IfOk, sym, subst}
use Rattle.su_query.specs.declared.statements.Statement.{Statement}
use Rattle.su_session.specs.Statements.{Answers}
use Rattle.su_effects.specs.inside.Statements.{MakesWhere}
use Rattle.su_effects.proofs.finding.of_statement.Goals as goal

pub returns-in-Insert : goal.returns-in-Insert
returns-in-Insert c = subst (λ (st : Statement). IfOk c.insert.result (λ effect. MakesWhere effect c.args.db.now (λ reply new. Answers c.args.db.now c.args.file.now st reply new))) (sym c.in-Insert.is) c.insert.ensures

pub returns-in-Delete : goal.returns-in-Delete
returns-in-Delete c = subst (λ (st : Statement). IfOk c.delete.result (λ effect. MakesWhere effect c.args.db.now (λ reply new. Answers c.args.db.now c.args.file.now st reply new))) (sym c.in-Delete.is) c.delete.ensures

pub returns-in-DeleteWhere : goal.returns-in-DeleteWhere
returns-in-DeleteWhere c = subst (λ (st : Statement). IfOk c.delete_where.result (λ effect. MakesWhere effect c.args.db.now (λ reply new. Answers c.args.db.now c.args.file.now st reply new))) (sym c.in-DeleteWhere.is) c.delete_where.ensures

pub returns-in-Load : goal.returns-in-Load
returns-in-Load c = subst (λ (st : Statement). IfOk c.load.result (λ effect. MakesWhere effect c.args.db.now (λ reply new. Answers c.args.db.now c.args.file.now st reply new))) (sym c.in-Load.is) c.load.ensures
