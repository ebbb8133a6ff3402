-- The query is ready with terms; then either trees are made of its minimals and the certificate is their text, or their nodes are too many; any cause before is the one defined, and is told.
use Rattle.std.proofs.Common.{◌≡◌, ◌∙◌, refl, ap, subst, inl, inr, Err, List}
use Rattle.std.proofs.lemmas.Result.{IfOk-weaker}
use Rattle.su_base.specs.declared.values.Kind.{Kind}
use Rattle.su_schema.specs.Entries.{attribute_kinds}
use Rattle.su_query.specs.declared.resolving.Resolved.{Resolved}
use Rattle.su_min.specs.Kept.{Minimised}
use Rattle.su_check.specs.declared.nodes.Node.{Node}
use Rattle.su_refute.specs.AllTrees.{AreTrees}
use Rattle.su_refute.specs.Written.{certificate_of, certificate_text}
use Rattle.su_answer.specs.Prepared.{IsPrepared}
use Rattle.su_session.specs.Outcomes.{Refuses}
use Rattle.su_session.specs.Certificates.{Certifies}
use Rattle.su_session.proofs.certifying.certify.Goals as goal

pub returns-in-Err-Nodes : goal.returns-in-Err-Nodes
returns-in-Err-Nodes g c =
    let prepared = c.in-Ok.ready.prepared in
    IfOk-weaker c.refused-in-Err-Nodes.result _ _ (λ reply refuses. (
      c.args.maximal.now,
      c.requires.maximal,
      inr (
        c.in-Ok.ensures.terms,
        inl (
          record {
            prepared = prepared;
            is_prepared = subst (λ (q : Resolved). IsPrepared c.args.db.now.schema c.args.maximal.now q prepared) c.in-Ok.ensures.resolved c.in-Ok.ensures.prepared;
            more = rw (← c.as_slice-minimals.ensures) (c.in-Err-Nodes.ensures.over (ap Err c.in-Err-Nodes.field-0-is));
          },
          refuses,
        ),
      ),
    )) c.refused-in-Err-Nodes.ensures

pub returns : goal.returns
returns g c =
    let prepared = c.in-Ok.ready.prepared in
    let trees = c.in-Ok-trees_of.trees in
    let kinds : c.as_slice.result.now ≡ attribute_kinds c.args.db.now.schema = c.as_slice.ensures ∙ c.in_ok-kinds.ensures ∙ ap attribute_kinds c.schema.ensures in (
      c.args.maximal.now,
      c.requires.maximal,
      inr (
        c.in-Ok.ensures.terms,
        inr (
          record {
            prepared = prepared;
            is_prepared = subst (λ (q : Resolved). IsPrepared c.args.db.now.schema c.args.maximal.now q prepared) c.in-Ok.ensures.resolved c.in-Ok.ensures.prepared;
            trees = trees;
            are_trees = subst (λ (ms : List Minimised). AreTrees ms trees) c.as_slice-minimals.ensures c.in-Ok-trees_of.ensures.trees;
            few = c.in-Ok-trees_of.ensures.within;
            text = record {
              accepted = c.accepted.ensures.accepted;
              text_is = c.accepted.ensures.text_is ∙ c.in_ok-write.ensures
                  ∙ ap (λ (ks : List Kind). certificate_text (certificate_of ks c.as_slice-minimals.result.now c.as_slice-2.result.now)) kinds
                  ∙ ap (λ (ms : List Minimised). certificate_text (certificate_of (attribute_kinds c.args.db.now.schema) ms c.as_slice-2.result.now)) c.as_slice-minimals.ensures
                  ∙ ap (λ (ts : List (List Node)). certificate_text (certificate_of (attribute_kinds c.args.db.now.schema) prepared.minimals ts)) c.as_slice-2.ensures;
            };
          },
          refl,
        ),
      ),
    )

pub returns-in-Err : goal.returns-in-Err
returns-in-Err g c =
    let db = c.args.db.now in
    let q = c.args.query.now in
    let why = c.in-Err.why in
    IfOk-weaker c.refused.result (λ reply. Refuses db why reply db) (λ reply. Certifies db q reply db)
    (λ reply h. (c.args.maximal.now, c.requires.maximal, inl (why, c.in-Err.ensures.refused reply.bytes h.line, h))) c.refused.ensures
