-- The row breaks none of the dependencies so far, so what is found of the next one is the first; a breach is of a dependency of the schema, so at the end there is none.
use Rattle.std.proofs.Common.{◌<◌, length, refl, ap, arith, below_more}
use Rattle.std.proofs.lemmas.Option.{slice_get_within}
use Rattle.su_state.specs.Breaches.{Breach, IsBreachWith}
use Rattle.su_state.specs.inside.SomeBreaches.{OfDependency, breach_found}
use Rattle.su_state.proofs.BreachOrder.{first_by_dependency}
use Rattle.su_state.proofs.breaches.first_breach.Goals as goal

pub loop-fd-preserved : goal.loop-fd-preserved
loop-fd-preserved c =
    let among = IsBreachWith c.args.schema.now c.args.relation c.args.table.now.rows c.args.row.now in
    below_more (λ f. (b : Breach) → ¬ OfDependency f among b) c.loop-fd.fd c.loop-fd.invariant c.in_default.ensures

pub returns-in-Some : goal.returns-in-Some
returns-in-Some c =
    let rows = c.args.table.now.rows in
    let row = c.args.row.now in
    let first = first_by_dependency (IsBreachWith c.args.schema.now c.args.relation rows row) c.loop-fd.fd (breach_found rows row c.in-Some.breach) c.in-Some.ensures.1 c.loop-fd.invariant in
    (c.in-Some.ensures.0, first)

pub returns : goal.returns
returns c = λ b breach.
    let within : b.dependency < length c.args.schema.now.fds = slice_get_within c.args.schema.now.fds b.dependency breach.breach.fd breach.breach.numbered in
    c.loop-fd.invariant b.dependency (omega (arith, within, ap length c.fds.ensures)) b (breach, refl)

pub breach_of-requires-clause-keeps : goal.breach_of-requires-clause-keeps
breach_of-requires-clause-keeps c = c.requires.keeps c.loop-fd.fd
