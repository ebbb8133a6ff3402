-- Names that aren't all attributes are refused by the first unknown one, since want of memory never gets a reply.
use Rattle.std.proofs.Common.{inl, inr}
use Rattle.std.proofs.lemmas.Result.{IfOk-weaker}
use Rattle.su_show.specs.declared.statement_refusal.Refusal.TheVariants.{Query}
use Rattle.su_show.proofs.RefusalLines.{query_told}
use Rattle.su_session.specs.Outcomes.{Refuses}
use Rattle.su_session.specs.Statements.{ShowsClosure}
use Rattle.su_session.proofs.showing.closure.Goals as goal

pub returns-in-Err : goal.returns-in-Err
returns-in-Err c =
    let db = c.args.db.now in
    let names = c.args.names.now in
    let fault = c.in-Err.fault in
    IfOk-weaker c.refused.result (λ reply. Refuses db (Query fault) reply db) (λ reply. ShowsClosure db names reply db)
    (λ reply h. inl (fault, elim (rw c.schema.ensures at c.in-Err.ensures.refused) [ inl memory ↦ absurd (query_told db.schema reply.bytes fault h.line memory) | inr is ↦ is ], h)) c.refused.ensures
