-- None of the dependencies so far is broken through the object, so the first breach of the next one is the object's first; a breach is of a dependency of the schema, so at the end there is none.
use Rattle.std.proofs.Common.{◌<◌, Result, length, refl, sym, ap, subst, arith, below_more}
use Rattle.std.specs.Prelude.{IfErr}
use Rattle.std.proofs.lemmas.Option.{slice_get_within}
use Rattle.std.proofs.lemmas.Result.{err_from_is_err_and}
use Rattle.su_state.specs.declared.faults.DefineFault.{DefineFault}
use Rattle.su_state.specs.Breaches.{Breach}
use Rattle.su_state.specs.NewBreaches.{IsStoredBreach}
use Rattle.su_state.specs.inside.SomeBreaches.{OfDependency, ThroughObject}
use Rattle.su_state.specs.inside.AddedDefinitions.{TellsFirst}
use Rattle.su_state.proofs.BreachOrder.{first_through_object}
use Rattle.su_state.proofs.StoredBreaches.{tells_as}
use Rattle.su_state.proofs.defining.check_object.Goals as goal

pub loop-fd-preserved : goal.loop-fd-preserved
loop-fd-preserved c =
    let stored = IsStoredBreach c.args.schema.now c.args.tables.now in
    below_more (λ f. (b : Breach) → ¬ ThroughObject c.args.object (OfDependency f stored) b) c.loop-fd.fd c.loop-fd.invariant c.in_ok-check_through.ensures.holds

pub returns-clause-holds : goal.returns-clause-holds
returns-clause-holds c = λ b breach.
    let within : b.dependency < length c.args.schema.now.fds = slice_get_within c.args.schema.now.fds b.dependency breach.0.breach.fd breach.0.breach.numbered in
    c.loop-fd.invariant b.dependency (omega (arith, within, ap length c.fds.ensures)) b ((breach.0, refl), breach.1)

pub returns-in_err-check_through-clause-refused : goal.returns-in_err-check_through-clause-refused
returns-in_err-check_through-clause-refused c =
    let stored = IsStoredBreach c.args.schema.now c.args.tables.now in
    let among = ThroughObject c.args.object stored in
    let p = err_from_is_err_and c.from_residual.result c.from_residual.ensures.1 in
    let told = tells_as c.args.schema.now (ThroughObject c.args.object (OfDependency c.loop-fd.fd stored)) among (λ b first. first_through_object stored c.loop-fd.fd c.args.object b first c.loop-fd.invariant) c.in_err-check_through.field-0.0 c.in_err-check_through.ensures.refused in
    subst (λ (r : Result (Unit {0}) DefineFault). IfErr r (TellsFirst c.args.schema.now among)) (sym p.1) (subst (TellsFirst c.args.schema.now among) (sym p.2) told)
