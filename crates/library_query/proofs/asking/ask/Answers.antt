-- What the calls say of the query's numbers is said of those that its names stand for, and of the schema that the database has.
use Rattle.std.proofs.Common.{◌≡◌, List, inl, inr, sym, subst}
use Rattle.su_base.specs.declared.values.Value.{Value}
use Rattle.su_rel.specs.MoreThan.{AreMoreThan}
use Rattle.su_schema.specs.SchemaValue.{SchemaValue}
use Rattle.su_query.specs.declared.resolving.Resolved.{Resolved}
use Rattle.su_query.specs.NumberedConditions.{resolved_of}
use Rattle.su_query.specs.Ranges.{IsResolved}
use Rattle.su_steps.specs.Refusals.{IsStepRefusal}
use Rattle.su_state.specs.DatabaseValue.{DatabaseValue}
use Rattle.su_answer.specs.Prepared.{IsPrepared, IsPreparedOn}
use Rattle.su_answer.specs.Answers.{IsAnswer, AreAnswers}
use Rattle.su_answer.specs.QueryAnswers.{IsAnswerOf}
use Rattle.library_query.proofs.TooLong.{too_long_or_memory}
use Rattle.library_query.proofs.asking.ask.Goals as goal

pub prepare-requires-clause-few : goal.prepare-requires-clause-few
prepare-requires-clause-few g c κs within = c.a_schema_has_few_maximal_objects.ensures c.args.db.now.schema c.args.maximal.now c.keeps_its_rules.ensures.valid c.requires.maximal

pub returns-in-Err-prepare-clause-refused : goal.returns-in-Err-prepare-clause-refused
returns-in-Err-prepare-clause-refused g c =
    let schema = c.args.db.now.schema in
    let is : c.in-Ok.resolved ≡ resolved_of schema c.args.query.now = rw c.schema-schema.ensures at c.in-Ok.ensures.resolved in
    elim c.in-Err-prepare.ensures.refused [
      | inl none ↦ inl none
      | inr why ↦ inr (subst (λ (q : Resolved). IsStepRefusal schema c.args.maximal.now q c.in-Err-prepare.fault) is why)
    ]

pub answer_over-requires-clause-prepared : goal.answer_over-requires-clause-prepared
answer_over-requires-clause-prepared g c =
    let schema = c.args.db.now.schema in
    let in_range : IsResolved schema c.in-Ok.resolved = rw c.schema-schema.ensures at c.in-Ok.ensures.in_range in
    let on : IsPreparedOn schema c.in-Ok-prepare.prepared = record { maximal = c.args.maximal.now; query = c.in-Ok.resolved; resolved = in_range; is = c.in-Ok-prepare.ensures.prepared } in
    subst (λ (s : SchemaValue). IsPreparedOn s c.in-Ok-prepare.prepared) (sym c.schema-schema.ensures) on

pub returns-in-Ok-answer_over-clause-answered : goal.returns-in-Ok-answer_over-clause-answered
returns-in-Ok-answer_over-clause-answered g c =
    let schema = c.args.db.now.schema in
    let tables = g.S.Rows.tables c.args.store.now in
    let db : DatabaseValue = record { schema = schema; tables = tables } in
    let maximal = c.args.maximal.now in
    let prepared = c.in-Ok-prepare.prepared in
    let rows : List (List Value) = c.in-Ok-answer_over.rows in
    let is : c.in-Ok.resolved ≡ resolved_of schema c.args.query.now = rw c.schema-schema.ensures at c.in-Ok.ensures.resolved in
    let in_range : IsResolved schema c.in-Ok.resolved = rw c.schema-schema.ensures at c.in-Ok.ensures.in_range in
    let resolved : IsResolved schema (resolved_of schema c.args.query.now) = subst (λ (q : Resolved). IsResolved schema q) is in_range in
    let is_prepared : IsPrepared schema maximal (resolved_of schema c.args.query.now) prepared = subst (λ (q : Resolved). IsPrepared schema maximal q prepared) is c.in-Ok-prepare.ensures.prepared in
    let answers : AreAnswers db prepared rows = subst (λ (s : SchemaValue). AreAnswers (record { schema = s; tables = tables }) prepared rows) c.schema-schema.ensures c.in-Ok-answer_over.ensures.answers in
    let answer : IsAnswerOf db maximal (resolved_of schema c.args.query.now) rows = record { prepared = prepared; is_prepared = is_prepared; answers = answers } in
    record { answer = answer; few = c.in-Ok-answer_over.ensures.few; expression = c.answers_are_the_expression.ensures db maximal (resolved_of schema c.args.query.now) rows c.requires.kept resolved answer }

pub returns-clause-refused : goal.returns-clause-refused
returns-clause-refused g c =
    let schema = c.args.db.now.schema in
    let tables = g.S.Rows.tables c.args.store.now in
    let db : DatabaseValue = record { schema = schema; tables = tables } in
    let prepared = c.in-Ok-prepare.prepared in
    let is : c.in-Ok.resolved ≡ resolved_of schema c.args.query.now = rw c.schema-schema.ensures at c.in-Ok.ensures.resolved in
    let is_prepared : IsPrepared schema c.args.maximal.now (resolved_of schema c.args.query.now) prepared = subst (λ (q : Resolved). IsPrepared schema c.args.maximal.now q prepared) is c.in-Ok-prepare.ensures.prepared in
    too_long_or_memory db c.args.maximal.now (resolved_of schema c.args.query.now) prepared c.in-Err-answer_over.fault is_prepared
    (λ long. subst (λ (s : SchemaValue). AreMoreThan 1000000 (IsAnswer (record { schema = s; tables = tables }) prepared)) c.schema-schema.ensures (c.in-Err-answer_over.ensures.limit long))
