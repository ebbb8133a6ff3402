-- The numbers made of the names are those that the definition gives the query, so that what is said of them, terms or a refusal, is said of the query.
use Rattle.std.proofs.Common.{◌≡◌, subst}
use Rattle.su_query.specs.Lookup.{IsKnownQuery}
use Rattle.su_query.specs.NumberedConditions.{resolved_of}
use Rattle.su_query.specs.Ranges.{IsResolved}
use Rattle.su_steps.specs.Refusals.{IsAccepted}
use Rattle.su_session.proofs.QueryRefusals.{refused_names, refused_terms}
use Rattle.su_session.proofs.retrieving.make_ready.Goals as goal

pub prepare-requires-clause-few : goal.prepare-requires-clause-few
prepare-requires-clause-few g c κs within = c.a_schema_has_few_maximal_objects.ensures c.args.db.now.schema c.args.maximal.now c.keeps_its_rules.ensures.valid c.requires.maximal

pub returns-in-Ok-prepare-clause-resolved : goal.returns-in-Ok-prepare-clause-resolved
returns-in-Ok-prepare-clause-resolved g c = rw c.schema.ensures at c.in-Ok.ensures.resolved

pub returns-in-Ok-prepare-clause-terms : goal.returns-in-Ok-prepare-clause-terms
returns-in-Ok-prepare-clause-terms g c =
    let schema = c.args.db.now.schema in
    let q = c.args.query.now in
    let is : c.in-Ok.resolved ≡ resolved_of schema q = rw c.schema.ensures at c.in-Ok.ensures.resolved in
    let known : IsKnownQuery schema q = rw c.schema.ensures at c.in-Ok.ensures.known in
    let in_range : IsResolved schema c.in-Ok.resolved = rw c.schema.ensures at c.in-Ok.ensures.in_range in
    record { known = known; resolved = subst (IsResolved schema) is in_range; accepted = subst (IsAccepted schema c.args.maximal.now) is c.in-Ok-prepare.ensures.accepted }

pub returns-in-Err-prepare-clause-refused : goal.returns-in-Err-prepare-clause-refused
returns-in-Err-prepare-clause-refused g c =
    λ line. refused_terms c.args.db.now.schema c.args.maximal.now c.args.query.now line c.in-Ok.resolved c.in-Err-prepare.fault (rw c.schema.ensures at c.in-Ok.ensures.resolved) (rw c.schema.ensures at c.in-Ok.ensures.known) c.in-Err-prepare.ensures.refused

pub returns-in-Err-clause-refused : goal.returns-in-Err-clause-refused
returns-in-Err-clause-refused g c = λ line. refused_names c.args.db.now.schema c.args.maximal.now c.args.query.now line c.in-Err.fault (rw c.schema.ensures at c.in-Err.ensures.refused)
