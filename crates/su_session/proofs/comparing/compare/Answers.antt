-- The queries are of one form, so their terms are comparable in either order; the verdicts forth and back, or the first cause to refuse them, are what the definition asks the reply to tell.
use Rattle.std.proofs.Common.{List, sym, ◌∙◌, subst, inl, inr}
use Rattle.std.proofs.lemmas.Result.{IfOk-weaker}
use Rattle.su_schema.specs.SchemaValue.{SchemaValue}
use Rattle.su_schema.specs.Valid.{IsValid}
use Rattle.su_steps.specs.declared.results.Term.{Term}
use Rattle.su_compare.specs.Comparable.{AreComparable}
use Rattle.su_show.specs.declared.statement_refusal.Refusal.TheVariants.{Steps}
use Rattle.su_show.specs.RefusalLines.{IsRefusalLine}
use Rattle.su_show.proofs.RefusalLines.{step_told}
use Rattle.su_session.specs.Outcomes.{Refuses}
use Rattle.su_session.specs.Comparisons.{Compares}
use Rattle.su_session.proofs.Compared.{AreTermsOf, comparable, refused_form, refused_terms, compared}
use Rattle.su_session.proofs.comparing.compare.Goals as goal

pub returns-in-Err : goal.returns-in-Err
returns-in-Err c =
    let db = c.args.db.now in
    IfOk-weaker c.refused.result (λ reply. Refuses db c.in-Err.why reply db) (λ reply. Compares db c.args.first.now c.args.second.now reply db)
    (λ reply h.
    let line : IsRefusalLine c.schema-schema.result.now c.in-Err.why reply.bytes = subst (λ (s : SchemaValue). IsRefusalLine s c.in-Err.why reply.bytes) (sym c.schema-schema.ensures) h.line in
    refused_form db c.args.first.now c.args.second.now reply c.schema-schema.result.now c.schema-schema.ensures c.in-Err.why (c.in-Err.ensures.refused reply.bytes line) h)
    c.refused.ensures

pub terms_of_both-requires-clause-few : goal.terms_of_both-requires-clause-few
terms_of_both-requires-clause-few c = c.a_schema_has_few_maximal_objects.ensures c.args.db.now.schema c.args.maximal.now c.keeps_its_rules.ensures.valid c.requires.maximal

pub returns-in-Err-terms_of_both : goal.returns-in-Err-terms_of_both
returns-in-Err-terms_of_both c =
    let db = c.args.db.now in
    let fault = c.in-Err-terms_of_both.fault in
    IfOk-weaker c.refused-in-Err-terms_of_both.result (λ reply. Refuses db (Steps fault) reply db) (λ reply. Compares db c.args.first.now c.args.second.now reply db)
    (λ reply h.
    refused_terms db c.args.first.now c.args.second.now reply c.schema-schema.result.now c.schema-schema.ensures c.args.maximal.now c.requires.maximal c.in-Ok.pair.first c.in-Ok.pair.second c.in-Ok.ensures.first.0 c.in-Ok.ensures.second.0 c.in-Ok.ensures.form
    fault (elim c.in-Err-terms_of_both.ensures.refused [ inl memory ↦ absurd (step_told db.schema reply.bytes fault h.line memory) | inr is ↦ is ]) h)
    c.refused-in-Err-terms_of_both.ensures

pub within-requires : goal.within-requires
within-requires c =
    let schema = c.schema-schema.result.now in
    let valid : IsValid schema = subst IsValid (sym c.schema-schema.ensures) c.keeps_its_rules.ensures.valid in
    let both = c.in-Ok-terms_of_both.both in
    let pair = c.in-Ok.pair in
    let h = comparable c.terms_are_comparable.ensures schema c.args.maximal.now c.args.first.now c.args.second.now pair.first pair.second both.first both.second valid c.in-Ok.ensures.first.0 c.in-Ok.ensures.second.0 c.in-Ok.ensures.form c.in-Ok-terms_of_both.ensures.first c.in-Ok-terms_of_both.ensures.second in
    record { comparable = subst (λ (ts : List Term). AreComparable schema ts c.as_slice-second.result.now) (sym c.as_slice-first.ensures) (subst (AreComparable schema both.first) (sym c.as_slice-second.ensures) h.0) }

pub within-requires-2 : goal.within-requires-2
within-requires-2 c =
    let schema = c.schema-schema.result.now in
    let valid : IsValid schema = subst IsValid (sym c.schema-schema.ensures) c.keeps_its_rules.ensures.valid in
    let both = c.in-Ok-terms_of_both.both in
    let pair = c.in-Ok.pair in
    let h = comparable c.terms_are_comparable.ensures schema c.args.maximal.now c.args.first.now c.args.second.now pair.first pair.second both.first both.second valid c.in-Ok.ensures.first.0 c.in-Ok.ensures.second.0 c.in-Ok.ensures.form c.in-Ok-terms_of_both.ensures.first c.in-Ok-terms_of_both.ensures.second in
    record { comparable = subst (λ (ts : List Term). AreComparable schema ts c.as_slice-first.result.now) (sym c.as_slice-second.ensures) (subst (AreComparable schema both.second) (sym c.as_slice-first.ensures) h.1) }

pub returns : goal.returns
returns c =
    let schema = c.schema-schema.result.now in
    let maximal = c.args.maximal.now in
    let pair = c.in-Ok.pair in
    let of_first : AreTermsOf schema maximal pair.first c.as_slice-first.result.now = subst (AreTermsOf schema maximal pair.first) (sym c.as_slice-first.ensures) c.in-Ok-terms_of_both.ensures.first in
    let of_second : AreTermsOf schema maximal pair.second c.as_slice-second.result.now = subst (AreTermsOf schema maximal pair.second) (sym c.as_slice-second.ensures) c.in-Ok-terms_of_both.ensures.second in
    compared c.args.db.now c.args.first.now c.args.second.now c.accepted.result schema c.schema-schema.ensures maximal c.requires.maximal pair.first pair.second c.in-Ok.ensures.first.0 c.in-Ok.ensures.second.0 c.in-Ok.ensures.form
    c.as_slice-first.result.now c.as_slice-second.result.now c.in_ok-forth.forth c.in_ok-back.back of_first of_second c.in_ok-forth.ensures.verdict c.in_ok-back.ensures.verdict
    (record { accepted = c.accepted.ensures.accepted; text_is = c.accepted.ensures.text_is ∙ c.in_ok-show.ensures })
