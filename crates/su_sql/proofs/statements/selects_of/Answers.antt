-- The numbers made of the names are those that the definition gives the query, so that the selects of what is prepared give the query's answer, and each refusal is one of the query's.
use Rattle.std.proofs.Common.{◌≡◌, subst}
use Rattle.su_query.specs.declared.resolving.Resolved.{Resolved}
use Rattle.su_query.specs.Lookup.{IsKnownQuery}
use Rattle.su_query.specs.NumberedConditions.{resolved_of}
use Rattle.su_query.specs.Ranges.{IsResolved}
use Rattle.su_steps.specs.Refusals.{IsAccepted}
use Rattle.su_answer.specs.Prepared.{IsPrepared}
use Rattle.su_session.proofs.QueryRefusals.{refused_names, refused_terms}
use Rattle.su_sql.proofs.Meaning.{give_answer}
use Rattle.su_sql.proofs.statements.selects_of.Goals as goal

pub prepare-requires-clause-few : goal.prepare-requires-clause-few
prepare-requires-clause-few g c κs within = c.a_schema_has_few_maximal_objects.ensures c.args.db.now.schema c.args.maximal.now c.keeps_its_rules.ensures.valid c.requires.maximal

pub returns-in-Err-prepare-clause-refused : goal.returns-in-Err-prepare-clause-refused
returns-in-Err-prepare-clause-refused g c =
    λ line. refused_terms c.args.db.now.schema c.args.maximal.now c.args.query.now line c.in-Ok.resolved c.in-Err-prepare.fault (rw c.schema.ensures at c.in-Ok.ensures.resolved) (rw c.schema.ensures at c.in-Ok.ensures.known) c.in-Err-prepare.ensures.refused

pub returns-in-Err-clause-refused : goal.returns-in-Err-clause-refused
returns-in-Err-clause-refused g c = λ line. refused_names c.args.db.now.schema c.args.maximal.now c.args.query.now line c.in-Err.fault (rw c.schema.ensures at c.in-Err.ensures.refused)

pub selects-requires : goal.selects-requires
selects-requires g c = record {
  prepared = record {
    maximal = c.args.maximal.now;
    query = c.in-Ok.resolved;
    resolved = rw c.schema.ensures at c.in-Ok.ensures.in_range;
    is = c.in-Ok-prepare.ensures.prepared;
  };
}

pub returns-in-Ok-selects-clause-selects : goal.returns-in-Ok-selects-clause-selects
returns-in-Ok-selects-clause-selects g c =
    let schema = c.args.db.now.schema in
    let is : c.in-Ok.resolved ≡ resolved_of schema c.args.query.now = rw c.schema.ensures at c.in-Ok.ensures.resolved in
    let prepared : IsPrepared schema c.args.maximal.now (resolved_of schema c.args.query.now) c.in-Ok-prepare.prepared =
    subst (λ (r : Resolved). IsPrepared schema c.args.maximal.now r c.in-Ok-prepare.prepared) is c.in-Ok-prepare.ensures.prepared in
    record {
      prepared = c.in-Ok-prepare.prepared;
      is_prepared = prepared;
      selects_are = c.in-Ok-selects.ensures.selects;
      answer = give_answer schema c.args.maximal.now (resolved_of schema c.args.query.now) c.in-Ok-prepare.prepared c.in-Ok-selects.selects prepared c.in-Ok-selects.ensures.means;
    }

pub returns-in-Ok-selects-clause-terms : goal.returns-in-Ok-selects-clause-terms
returns-in-Ok-selects-clause-terms g c =
    let schema = c.args.db.now.schema in
    let q = c.args.query.now in
    let is : c.in-Ok.resolved ≡ resolved_of schema q = rw c.schema.ensures at c.in-Ok.ensures.resolved in
    let known : IsKnownQuery schema q = rw c.schema.ensures at c.in-Ok.ensures.known in
    let in_range : IsResolved schema c.in-Ok.resolved = rw c.schema.ensures at c.in-Ok.ensures.in_range in
    record { known = known; resolved = subst (IsResolved schema) is in_range; accepted = subst (IsAccepted schema c.args.maximal.now) is c.in-Ok-prepare.ensures.accepted }
