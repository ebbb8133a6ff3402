-- A known name gives the relation's number, and what the database says of the insert there, done or refused, is what is replied.
use Rattle.std.proofs.Common.{inl, inr, sym, ◌∙◌}
use Rattle.std.proofs.lemmas.Result.{IfOk-weaker}
use Rattle.su_state.specs.DatabaseValue.{DatabaseValue}
use Rattle.su_show.specs.declared.statement_refusal.Refusal.TheVariants.{State}
use Rattle.su_show.proofs.RefusalLines.{state_told}
use Rattle.su_session.specs.Outcomes.{Refuses}
use Rattle.su_session.specs.RowStatements.{InRelation, InsertsRow}
use Rattle.su_session.proofs.ChangeReplies.{refused_insert}
use Rattle.su_session.proofs.changes.insert.Goals as goal

pub returns-in-Err-clause-replied : goal.returns-in-Err-clause-replied
returns-in-Err-clause-replied c =
    let old = c.args.db.now in
    let new : DatabaseValue = c.insert.new.self in
    let fault = c.in-Err.fault in
    IfOk-weaker c.refused.result (λ reply. Refuses new (State fault) reply new) (λ reply. InRelation old c.args.name.now reply new (InsertsRow old c.args.row reply new))
    (λ reply h. inr (c.in-Some.relation, sym c.known.ensures ∙ c.in-Some.is, refused_insert old c.args.name.now reply new c.in-Some.relation c.args.row fault (elim c.in-Err.ensures.refused [ inl memory ↦ absurd (state_told new.schema reply.bytes fault h.line memory) | inr is ↦ is ]) h))
    c.refused.ensures
