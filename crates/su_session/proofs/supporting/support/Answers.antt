-- The query is prepared and in range, as counting needs; the text tells the supports of that preparation, and a query that isn't ready is refused for the cause defined.
use Rattle.std.proofs.Common.{◌∙◌, refl, sym, ap, subst, inr, inl}
use Rattle.std.proofs.lemmas.Result.{IfOk-weaker}
use Rattle.su_query.specs.declared.resolving.Resolved.{Resolved}
use Rattle.su_query.specs.Ranges.{IsResolved}
use Rattle.su_answer.specs.Prepared.{IsPrepared}
use Rattle.su_show.specs.Supports.{supports_text}
use Rattle.su_session.specs.Outcomes.{Refuses}
use Rattle.su_session.specs.Supports.{Supports}
use Rattle.su_session.proofs.supporting.support.Goals as goal

pub support-requires : goal.support-requires
support-requires g c = record {
  maximal = c.args.maximal.now;
  query = c.in-Ok.ready.resolved;
  resolved = subst (IsResolved c.args.db.now.schema) (sym c.in-Ok.ensures.resolved) c.in-Ok.ensures.terms.resolved;
  is = c.in-Ok.ensures.prepared;
}

pub returns : goal.returns
returns g c =
    let prepared = c.in-Ok.ready.prepared in (
      c.args.maximal.now,
      c.requires.maximal,
      inr (
        c.in-Ok.ensures.terms,
        (
          record {
            prepared = prepared;
            is_prepared = subst (λ (q : Resolved). IsPrepared c.args.db.now.schema c.args.maximal.now q prepared) c.in-Ok.ensures.resolved c.in-Ok.ensures.prepared;
            supports = c.in_ok-found.found;
            are_supports = c.in_ok-found.ensures;
            text = record {
              accepted = c.accepted.ensures.accepted;
              text_is = c.accepted.ensures.text_is ∙ c.in_ok-supports.ensures ∙ ap supports_text c.as_slice.ensures;
            };
          },
          refl,
        ),
      ),
    )

pub returns-in-Err : goal.returns-in-Err
returns-in-Err g c =
    let db = c.args.db.now in
    let q = c.args.query.now in
    let why = c.in-Err.why in
    IfOk-weaker c.refused.result (λ reply. Refuses db why reply db) (λ reply. Supports db q reply db)
    (λ reply h. (c.args.maximal.now, c.requires.maximal, inl (why, c.in-Err.ensures.refused reply.bytes h.line, h))) c.refused.ensures
