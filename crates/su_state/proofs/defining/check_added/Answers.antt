-- The dependency or object that was added is the last of its list, so checking that one checks what the definition added; the other definitions add nothing that rows could break.
use Rattle.std.proofs.Common.{◌-◌, ℕ, List, length, subst, sym}
use Rattle.std.specs.Prelude.{OnOk, IfErr}
use Rattle.su_fd.specs.declared.dependencies.Fd.{Fd as Dependency}
use Rattle.su_schema.specs.declared.definitions.Definition.{Definition}
use Rattle.su_state.specs.Breaches.{Breach}
use Rattle.su_state.specs.NewBreaches.{IsStoredBreach, IsNewBreach}
use Rattle.su_state.specs.inside.SomeBreaches.{OfDependency, ThroughObject}
use Rattle.su_state.specs.inside.AddedDefinitions.{TellsFirst}
use Rattle.su_state.proofs.defining.check_added.Goals as goal

pub returns-in-Fd-clause-holds : goal.returns-in-Fd-clause-holds
returns-in-Fd-clause-holds c =
    subst (λ (d : Definition). OnOk c.check_fd.result ((b : Breach) → ¬ IsNewBreach c.args.schema.now c.args.tables.now d b)) (sym c.in-Fd.is)
    (subst (λ (fds : List Dependency). OnOk c.check_fd.result ((b : Breach) → ¬ OfDependency (length fds - 1) (IsStoredBreach c.args.schema.now c.args.tables.now) b)) c.fds.ensures c.check_fd.ensures.holds)

pub returns-in-Fd-clause-refused : goal.returns-in-Fd-clause-refused
returns-in-Fd-clause-refused c =
    subst (λ (d : Definition). IfErr c.check_fd.result (TellsFirst c.args.schema.now (IsNewBreach c.args.schema.now c.args.tables.now d))) (sym c.in-Fd.is)
    (subst (λ (fds : List Dependency). IfErr c.check_fd.result (TellsFirst c.args.schema.now (OfDependency (length fds - 1) (IsStoredBreach c.args.schema.now c.args.tables.now)))) c.fds.ensures c.check_fd.ensures.refused)

pub returns-in-Object-clause-holds : goal.returns-in-Object-clause-holds
returns-in-Object-clause-holds c =
    subst (λ (d : Definition). OnOk c.check_object.result ((b : Breach) → ¬ IsNewBreach c.args.schema.now c.args.tables.now d b)) (sym c.in-Object.is)
    (subst (λ (n : ℕ). OnOk c.check_object.result ((b : Breach) → ¬ ThroughObject (n - 1) (IsStoredBreach c.args.schema.now c.args.tables.now) b)) c.objects.ensures c.check_object.ensures.holds)

pub returns-in-Object-clause-refused : goal.returns-in-Object-clause-refused
returns-in-Object-clause-refused c =
    subst (λ (d : Definition). IfErr c.check_object.result (TellsFirst c.args.schema.now (IsNewBreach c.args.schema.now c.args.tables.now d))) (sym c.in-Object.is)
    (subst (λ (n : ℕ). IfErr c.check_object.result (TellsFirst c.args.schema.now (ThroughObject (n - 1) (IsStoredBreach c.args.schema.now c.args.tables.now)))) c.objects.ensures c.check_object.ensures.refused)
