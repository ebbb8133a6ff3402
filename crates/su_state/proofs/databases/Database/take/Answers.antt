-- The schema with the definition is valid, and the tables keep what it demands of them, or the first cause that they don't is told; a table of no rows comes with a new relation, so the database is well kept.
use Rattle.std.proofs.Common.{◌≡◌, ◌⊎◌, List, Ok, Err, Result, subst, sym, ap, ◌∙◌}
use Rattle.std.specs.Prelude.{IfErr, OnErr}
use Rattle.std.proofs.lemmas.Result.{err_from_is_err_and}
use Rattle.su_schema.specs.Valid.{IsValid}
use Rattle.su_schema.specs.Definitions.{applied}
use Rattle.su_rel.specs.Stored.{Stored}
use Rattle.su_state.specs.DatabaseValue.{DatabaseValue, IsWellKept}
use Rattle.su_state.specs.declared.faults.DefineFault.{DefineFault}
use Rattle.su_state.specs.declared.faults.DefineFault.TheVariants.{NoMemory}
use Rattle.su_state.specs.Definitions.{Defines, tables_with}
use Rattle.su_state.specs.Breaches.{Breach}
use Rattle.su_state.specs.NewBreaches.{IsNewBreach}
use Rattle.su_state.specs.inside.AddedDefinitions.{TellsFirst}
use Rattle.su_state.proofs.Added.{tables_there, added_there, narrow, refused_added, kept_added}
use Rattle.su_state.proofs.databases.Database.take.Goals as goal

pub check_added-requires-clause-tables : goal.check_added-requires-clause-tables
check_added-requires-clause-tables c =
    let db : DatabaseValue = record { schema = c.self.inside.schema; tables = c.self.inside.tables.items } in
    let valid : IsValid c.args.schema = c.keeps_its_rules.ensures in
    rw c.as_slice.ensures.value (tables_there db c.args.schema c.args.definition.now c.self.invariant valid (subst (λ (d : DatabaseValue). applied d.schema c.args.definition.now ≡ Ok c.args.schema) (sym c.self.view_is) c.requires.extended))

pub check_added-requires-clause-added : goal.check_added-requires-clause-added
check_added-requires-clause-added c = added_there c.self.inside.schema c.args.schema c.args.definition.now (subst (λ (d : DatabaseValue). applied d.schema c.args.definition.now ≡ Ok c.args.schema) (sym c.self.view_is) c.requires.extended)

pub add_table-requires : goal.add_table-requires
add_table-requires c =
    let valid : IsValid c.args.schema = c.keeps_its_rules.ensures in
    narrow c.self.inside.schema c.args.schema c.args.definition.now (subst (λ (d : DatabaseValue). applied d.schema c.args.definition.now ≡ Ok c.args.schema) (sym c.self.view_is) c.requires.extended) valid

pub returns-in_err-check_added-clause-refused : goal.returns-in_err-check_added-clause-refused
returns-in_err-check_added-clause-refused c =
    let p = err_from_is_err_and c.from_residual.result c.from_residual.ensures.1 in
    let fault : DefineFault = c.in_err-check_added.field-0.0 in
    let is = c.requires.extended in
    let here = subst (λ (tables : List Stored). TellsFirst c.args.schema (IsNewBreach c.args.schema tables c.args.definition.now) fault) c.as_slice.ensures.value c.in_err-check_added.ensures.refused in
    let refused = subst (λ (d : DatabaseValue). TellsFirst c.args.schema (IsNewBreach c.args.schema d.tables c.args.definition.now) fault) c.self.view_is here in
    subst (λ (r : Result (Unit {0}) DefineFault). IfErr r (λ f. (f ≡ NoMemory) ⊎ Defines c.args.self.now c.args.definition.now (Err f) c.args.self.now)) (sym p.1)
    (subst (λ (f : DefineFault). (f ≡ NoMemory) ⊎ Defines c.args.self.now c.args.definition.now (Err f) c.args.self.now) (sym p.2)
    (refused_added c.args.self.now c.args.schema c.args.definition.now fault is refused))

pub returns-in_err-add_table-clause-unchanged : goal.returns-in_err-add_table-clause-unchanged
returns-in_err-add_table-clause-unchanged c =
    let p = err_from_is_err_and c.from_residual-in_err-add_table.result c.from_residual-in_err-add_table.ensures.1 in
    let new : DatabaseValue = record { schema = c.self.inside.schema; tables = c.add_table.new.tables.items } in
    let unchanged : c.add_table.new.tables.items ≡ c.self.inside.tables.items = c.in_err-add_table.ensures.unchanged in
    let back : ◌≡◌ {A = DatabaseValue} new (record { schema = c.self.inside.schema; tables = c.self.inside.tables.items }) = λ i. record { schema = c.self.inside.schema; tables = unchanged i } in
    let same : new ≡ c.args.self.now = back ∙ c.self.view_is in
    subst (λ (r : Result (Unit {0}) DefineFault). OnErr r (new ≡ c.args.self.now)) (sym p.1) same

pub invariant_of-self-2 : goal.invariant_of-self-2
invariant_of-self-2 c =
    let db : DatabaseValue = record { schema = c.self.inside.schema; tables = c.self.inside.tables.items } in
    let valid : IsValid c.args.schema = c.keeps_its_rules.ensures in
    let holds = subst (λ (tables : List Stored). (b : Breach) → ¬ IsNewBreach c.args.schema tables c.args.definition.now b) c.as_slice.ensures.value c.in_ok-check_added.ensures.holds in
    subst (λ (tables : List Stored). IsWellKept (record { schema = c.args.schema; tables = tables })) (sym c.in_ok-add_table.ensures.ok)
    (kept_added db c.args.schema c.args.definition.now c.self.invariant valid (subst (λ (d : DatabaseValue). applied d.schema c.args.definition.now ≡ Ok c.args.schema) (sym c.self.view_is) c.requires.extended) holds)

pub returns-clause-done : goal.returns-clause-done
returns-clause-done c =
    let is = c.requires.extended in
    let here = subst (λ (tables : List Stored). (b : Breach) → ¬ IsNewBreach c.args.schema tables c.args.definition.now b) c.as_slice.ensures.value c.in_ok-check_added.ensures.holds in
    let holds = subst (λ (d : DatabaseValue). (b : Breach) → ¬ IsNewBreach c.args.schema d.tables c.args.definition.now b) c.self.view_is here in
    (is, c.in_ok-add_table.ensures.ok ∙ ap (λ d. tables_with c.args.definition.now d.tables) c.self.view_is, holds)
