-- The query is prepared and in range, as answering needs; its ends are a refusal told, an answer that would be too long, or the rows.
use Rattle.std.proofs.Common.{sym, subst, inl, inr}
use Rattle.std.proofs.lemmas.Result.{IfOk-weaker}
use Rattle.su_query.specs.declared.resolving.Resolved.{Resolved}
use Rattle.su_query.specs.Ranges.{IsResolved}
use Rattle.su_answer.specs.Prepared.{IsPrepared}
use Rattle.su_show.specs.declared.statement_refusal.Refusal.TheVariants.{Answer}
use Rattle.su_session.specs.Outcomes.{Refuses}
use Rattle.su_session.specs.Retrievals.{Retrieves}
use Rattle.su_session.proofs.retrieving.retrieve.Goals as goal

pub answer-requires-clause-prepared : goal.answer-requires-clause-prepared
answer-requires-clause-prepared g c κs within = record {
  maximal = c.args.maximal.now;
  query = c.in-Ok.ready.resolved;
  resolved = subst (IsResolved c.args.db.now.schema) (sym c.in-Ok.ensures.resolved) c.in-Ok.ensures.terms.resolved;
  is = c.in-Ok.ensures.prepared;
}

pub returns-in-Err : goal.returns-in-Err
returns-in-Err g c =
    let db = c.args.db.now in
    let q = c.args.query.now in
    let why = c.in-Err.why in
    IfOk-weaker c.refused.result (λ reply. Refuses db why reply db) (λ reply. Retrieves db q reply db)
    (λ reply h. (c.args.maximal.now, c.requires.maximal, inl (why, c.in-Err.ensures.refused reply.bytes h.line, h))) c.refused.ensures

pub returns-in-Err-Limit : goal.returns-in-Err-Limit
returns-in-Err-Limit g c =
    let db = c.args.db.now in
    let prepared = c.in-Ok.ready.prepared in
    IfOk-weaker c.refused-in-Err-Limit.result (λ reply. Refuses db Answer reply db) (λ reply. Retrieves db c.args.query.now reply db)
    (λ reply refuses. (
      c.args.maximal.now,
      c.requires.maximal,
      inr (
        c.in-Ok.ensures.terms,
        inl (
          record {
            prepared = prepared;
            is_prepared = subst (λ (q : Resolved). IsPrepared db.schema c.args.maximal.now q prepared) c.in-Ok.ensures.resolved c.in-Ok.ensures.prepared;
            many = c.in-Err-Limit.ensures.limit c.in-Err-Limit.field-0-is;
          },
          refuses,
        ),
      ),
    )) c.refused-in-Err-Limit.ensures
