-- The row breaks the dependency through no object so far, so what is found through the next one is the first; a breach is through an object of the schema, so at the end there is none.
use Rattle.std.proofs.Common.{◌<◌, length, refl, arith, below_more}
use Rattle.std.proofs.lemmas.Option.{slice_get_within}
use Rattle.su_state.specs.Breaches.{Breach, IsBreachWith}
use Rattle.su_state.specs.inside.SomeBreaches.{OfDependency, ThroughObject, breach_found}
use Rattle.su_state.proofs.BreachOrder.{first_by_object}
use Rattle.su_state.proofs.breaches.breach_of.Goals as goal

pub loop-object-preserved : goal.loop-object-preserved
loop-object-preserved c =
    let among = OfDependency c.args.fd (IsBreachWith c.args.schema.now c.args.relation c.args.table.now.rows c.args.row.now) in
    below_more (λ o. (b : Breach) → ¬ ThroughObject o among b) c.loop-object.object c.loop-object.invariant c.in_default.ensures

pub returns-in-Some : goal.returns-in-Some
returns-in-Some c =
    let rows = c.args.table.now.rows in
    let row = c.args.row.now in
    let first = first_by_object (IsBreachWith c.args.schema.now c.args.relation rows row) c.args.fd c.loop-object.object (breach_found rows row c.in-Some.breach) c.in-Some.ensures.1 c.loop-object.invariant in
    (c.in-Some.ensures.0, first)

pub returns : goal.returns
returns c = λ b breach.
    let within : b.object < length c.args.schema.now.objects = slice_get_within c.args.schema.now.objects b.object breach.0.breach.object breach.0.breach.placed in
    c.loop-object.invariant b.object (omega (arith, within, c.objects-object-end.ensures)) b (breach, refl)

pub breach_through-requires-clause-keeps : goal.breach_through-requires-clause-keeps
breach_through-requires-clause-keeps c = c.requires.keeps c.loop-object.object
