-- The dependency is broken through no object so far, so the first breach through the next one is its first; a breach is through an object of the schema, so at the end there is none.
use Rattle.std.proofs.Common.{◌<◌, Result, length, refl, sym, subst, arith, below_more}
use Rattle.std.specs.Prelude.{IfErr}
use Rattle.std.proofs.lemmas.Option.{slice_get_within}
use Rattle.std.proofs.lemmas.Result.{err_from_is_err_and}
use Rattle.su_state.specs.declared.faults.DefineFault.{DefineFault}
use Rattle.su_state.specs.Breaches.{Breach}
use Rattle.su_state.specs.NewBreaches.{IsStoredBreach}
use Rattle.su_state.specs.inside.SomeBreaches.{OfDependency, ThroughObject}
use Rattle.su_state.specs.inside.AddedDefinitions.{TellsFirst}
use Rattle.su_state.proofs.BreachOrder.{first_by_object}
use Rattle.su_state.proofs.StoredBreaches.{tells_as}
use Rattle.su_state.proofs.defining.check_fd.Goals as goal

pub loop-object-preserved : goal.loop-object-preserved
loop-object-preserved c =
    let among = OfDependency c.args.fd (IsStoredBreach c.args.schema.now c.args.tables.now) in
    below_more (λ o. (b : Breach) → ¬ ThroughObject o among b) c.loop-object.object c.loop-object.invariant c.in_ok-check_through.ensures.holds

pub returns-clause-holds : goal.returns-clause-holds
returns-clause-holds c = λ b breach.
    let within : b.object < length c.args.schema.now.objects = slice_get_within c.args.schema.now.objects b.object breach.0.breach.object breach.0.breach.placed in
    c.loop-object.invariant b.object (omega (arith, within, c.objects-object-end.ensures)) b (breach, refl)

pub returns-in_err-check_through-clause-refused : goal.returns-in_err-check_through-clause-refused
returns-in_err-check_through-clause-refused c =
    let stored = IsStoredBreach c.args.schema.now c.args.tables.now in
    let among = OfDependency c.args.fd stored in
    let p = err_from_is_err_and c.from_residual.result c.from_residual.ensures.1 in
    let told = tells_as c.args.schema.now (ThroughObject c.loop-object.object among) among (λ b first. first_by_object stored c.args.fd c.loop-object.object b first c.loop-object.invariant) c.in_err-check_through.field-0.0 c.in_err-check_through.ensures.refused in
    subst (λ (r : Result (Unit {0}) DefineFault). IfErr r (TellsFirst c.args.schema.now among)) (sym p.1) (subst (TellsFirst c.args.schema.now among) (sym p.2) told)
