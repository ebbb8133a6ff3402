-- Two ends behind a known relation, each as defined: a condition with a name that isn't a column's, or the rows deleted where the condition over numbers holds, which is the one that was read.
use Rattle.std.proofs.Common.{inl, inr, sym, ◌∙◌}
use Rattle.std.proofs.lemmas.Result.{IfOk-weaker}
use Rattle.su_show.specs.declared.statement_refusal.Refusal.TheVariants.{Query}
use Rattle.su_show.proofs.RefusalLines.{query_told}
use Rattle.su_session.specs.Outcomes.{Refuses}
use Rattle.su_session.specs.RowStatements.{InRelation, DeletesRows}
use Rattle.su_session.proofs.ChangeReplies.{deleted_rows}
use Rattle.su_session.proofs.changes.delete_where.Goals as goal

pub returns-in-Err-clause-replied : goal.returns-in-Err-clause-replied
returns-in-Err-clause-replied c =
    let old = c.args.db.now in
    let r = c.in-Some.relation in
    let fault = c.in-Err.fault in
    IfOk-weaker c.refused.result (λ reply. Refuses old (Query fault) reply old) (λ reply. InRelation old c.args.name.now reply old (DeletesRows old c.args.cond.now reply old))
    (λ reply h. inr (r, sym c.known.ensures ∙ c.in-Some.is, inl (fault, elim (rw c.schema.ensures at c.in-Err.ensures.refused) [ inl memory ↦ absurd (query_told old.schema reply.bytes fault h.line memory) | inr is ↦ is ], h)))
    c.refused.ensures

pub returns-clause-replied : goal.returns-clause-replied
returns-clause-replied c =
    deleted_rows c.args.db.now c.args.name.now c.accepted.result c.delete_where.new.self c.in-Some.relation c.args.cond.now c.in-Ok.cond c.in_ok-count.count (sym c.known.ensures ∙ c.in-Some.is)
    (rw c.schema.ensures at c.in-Ok.ensures.numbers) (rw c.schema.ensures at c.in-Ok.ensures.known) c.in_ok-count.ensures.done (rw c.deleted.ensures at c.accepted.ensures)
