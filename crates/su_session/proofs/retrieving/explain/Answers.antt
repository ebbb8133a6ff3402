-- There is one minimal for each term, as an explanation needs; where the query isn't made ready, the cause is the one defined, since want of memory never gets a reply.
use Rattle.std.proofs.Common.{length, ap, sym, ◌∙◌, inl}
use Rattle.std.proofs.lemmas.Result.{IfOk-weaker}
use Rattle.su_session.specs.Outcomes.{Refuses}
use Rattle.su_session.specs.Explanations.{Explains}
use Rattle.su_session.proofs.retrieving.explain.Goals as goal
use Rattle.su_base.proofs.Items.{AllZip-length}

pub explanation-requires : goal.explanation-requires
explanation-requires g c = record { one_each = ap (λ ms. length ms) c.as_slice-2.ensures ∙ sym (AllZip-length _ _ _ c.in-Ok.ensures.prepared.minimals) ∙ ap (λ ts. length ts) (sym c.as_slice.ensures) }

pub returns-in-Err : goal.returns-in-Err
returns-in-Err g c =
    let db = c.args.db.now in
    let q = c.args.query.now in
    let why = c.in-Err.why in
    IfOk-weaker c.refused.result (λ reply. Refuses db why reply db) (λ reply. Explains db q reply db)
    (λ reply h. (c.args.maximal.now, c.requires.maximal, inl (why, c.in-Err.ensures.refused reply.bytes h.line, h))) c.refused.ensures
