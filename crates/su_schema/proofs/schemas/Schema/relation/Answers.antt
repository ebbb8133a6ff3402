-- Each test is one of the definition's checks, in their order: where one fails those before it have passed, and where none fails the schema has one relation more.
use Rattle.std.proofs.Common.{◌≡◌, ◌<◌, ◌≤◌, None, true, false, inl, inr, nat_le, nat_lt, length, is_some, refl, sym, ap, ◌∙◌, arith}
use Rattle.std.proofs.lemmas.Bool.Decides.{nat_tests}
use Rattle.std.proofs.lemmas.Result.{err_from_is_err_and}
use Rattle.su_schema.specs.declared.definitions.Definition.TheVariants.{Relation}
use Rattle.su_schema.specs.Entries.{relation_names}
use Rattle.su_schema.specs.NameChecks.{first_failing}
use Rattle.su_schema.specs.Checks.{checks}
use Rattle.su_schema.specs.Known.{is_known}
use Rattle.su_schema.proofs.Numbers.{is_known-place_of}
use Rattle.su_schema.proofs.Accepted.{accepted, is_refused}
use Rattle.su_schema.proofs.OneMore.{stays_valid, relation_shape}
use Rattle.su_schema.proofs.schemas.Schema.relation.Goals as goal

pub returns-then-is_some-clause-refused : goal.returns-then-is_some-clause-refused
returns-then-is_some-clause-refused c =
    let old : is_known (relation_names c.args.self.now) c.args.name.now ≡ true = is_known-place_of (relation_names c.args.self.now) c.args.name.now ∙ ap is_some (sym c.find_relation.ensures) ∙ sym c.if-is_some.ensures in
    inr (rw c.in_ok-new.ensures (is_refused c.args.self.now (Relation c.args.name.now c.args.columns.now) _ (rw old refl)))

pub returns-then-relations-ge64-clause-refused : goal.returns-then-relations-ge64-clause-refused
returns-then-relations-ge64-clause-refused c =
    let new : is_known (relation_names c.args.self.now) c.args.name.now ≡ false = is_known-place_of (relation_names c.args.self.now) c.args.name.now ∙ ap is_some (sym c.find_relation.ensures) ∙ sym c.if-is_some.ensures in
    let more : 64 ≤ length c.args.self.now.relations = rw (← c.relations.ensures) c.if-relations-ge64.true in
    let full : nat_le 64 (length c.args.self.now.relations) ≡ true = grind (arith, nat_tests, more) in
    inr (is_refused c.args.self.now (Relation c.args.name.now c.args.columns.now) _ (rw (new, full) refl))

pub returns-then-columns-gt32-clause-refused : goal.returns-then-columns-gt32-clause-refused
returns-then-columns-gt32-clause-refused c =
    let new : is_known (relation_names c.args.self.now) c.args.name.now ≡ false = is_known-place_of (relation_names c.args.self.now) c.args.name.now ∙ ap is_some (sym c.find_relation.ensures) ∙ sym c.if-is_some.ensures in
    let less : length c.args.self.now.relations < 64 = rw (← c.relations.ensures) c.if-relations-ge64.false in
    let room : nat_le 64 (length c.args.self.now.relations) ≡ false = grind (arith, nat_tests, less) in
    let many : nat_lt 32 (length c.args.columns.now) ≡ true = grind (arith, nat_tests, c.if-columns-gt32.true) in
    inr (is_refused c.args.self.now (Relation c.args.name.now c.args.columns.now) _ (rw (new, room, many) refl))

pub returns-in_err-check_names-clause-refused : goal.returns-in_err-check_names-clause-refused
returns-in_err-check_names-clause-refused c =
    let p = err_from_is_err_and c.from_residual-in_err-check_names.result c.from_residual-in_err-check_names.ensures.1 in
    let new : is_known (relation_names c.args.self.now) c.args.name.now ≡ false = is_known-place_of (relation_names c.args.self.now) c.args.name.now ∙ ap is_some (sym c.find_relation.ensures) ∙ sym c.if-is_some.ensures in
    let less : length c.args.self.now.relations < 64 = rw (← c.relations.ensures) c.if-relations-ge64.false in
    let room : nat_le 64 (length c.args.self.now.relations) ≡ false = grind (arith, nat_tests, less) in
    let few : nat_lt 32 (length c.args.columns.now) ≡ false = grind (arith, nat_tests, c.if-columns-gt32.false) in
    rw (p.1, p.2)
    (elim c.in_err-check_names.ensures.refused [
      | inl none ↦ inl none
      | inr fails ↦ inr (is_refused c.args.self.now (Relation c.args.name.now c.args.columns.now) _ (rw (new, room, few) fails))
    ])

pub invariant_of-self-2 : goal.invariant_of-self-2
invariant_of-self-2 c =
    let new : is_known (relation_names c.args.self.now) c.args.name.now ≡ false = is_known-place_of (relation_names c.args.self.now) c.args.name.now ∙ ap is_some (sym c.find_relation.ensures) ∙ sym c.if-is_some.ensures in
    let less : length c.args.self.now.relations < 64 = rw (← c.relations.ensures) c.if-relations-ge64.false in
    let room : nat_le 64 (length c.args.self.now.relations) ≡ false = grind (arith, nat_tests, less) in
    let few : nat_lt 32 (length c.args.columns.now) ≡ false = grind (arith, nat_tests, c.if-columns-gt32.false) in
    let none : first_failing (checks c.args.self.now (Relation c.args.name.now c.args.columns.now)) ≡ None = rw (new, room, few) c.in_ok-check_names.ensures.passed in
    let shape = relation_shape c.self.inside c.args.self.now c.self.view_is _ _ _ c.args.columns.now c.args.name.now c.in_ok-columns.ensures c.in_ok-name.ensures.ok new c.in_ok-insert.ensures.entries in
    record {
      valid = stays_valid c.self.inside c.args.self.now _ (Relation c.args.name.now c.args.columns.now) c.self.view_is c.self.invariant.valid c.requires none shape;
      attribute_sets = c.self.invariant.attribute_sets;
    }

pub returns-clause-ok : goal.returns-clause-ok
returns-clause-ok c =
    let new : is_known (relation_names c.args.self.now) c.args.name.now ≡ false = is_known-place_of (relation_names c.args.self.now) c.args.name.now ∙ ap is_some (sym c.find_relation.ensures) ∙ sym c.if-is_some.ensures in
    let less : length c.args.self.now.relations < 64 = rw (← c.relations.ensures) c.if-relations-ge64.false in
    let room : nat_le 64 (length c.args.self.now.relations) ≡ false = grind (arith, nat_tests, less) in
    let few : nat_lt 32 (length c.args.columns.now) ≡ false = grind (arith, nat_tests, c.if-columns-gt32.false) in
    let none : first_failing (checks c.args.self.now (Relation c.args.name.now c.args.columns.now)) ≡ None = rw (new, room, few) c.in_ok-check_names.ensures.passed in
    let shape = relation_shape c.self.inside c.args.self.now c.self.view_is _ _ _ c.args.columns.now c.args.name.now c.in_ok-columns.ensures c.in_ok-name.ensures.ok new c.in_ok-insert.ensures.entries in
    accepted c.args.self.now _ (Relation c.args.name.now c.args.columns.now) none shape
