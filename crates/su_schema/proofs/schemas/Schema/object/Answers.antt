-- Each test is one of the definition's checks, in their order: where one fails those before it have passed, and where none fails the schema has one object more.
use Rattle.std.proofs.Common.{◌≡◌, ◌<◌, ◌≤◌, Some, None, true, false, inl, inr, nat_le, [], ℕ, subst, length, is_some, refl, sym, ap, ◌∙◌, arith}
use Rattle.std.proofs.lemmas.Bool.Decides.{nat_tests}
use Rattle.std.proofs.lemmas.Result.{err_from_is_err_and}
use Rattle.su_schema.specs.declared.definitions.Definition.TheVariants.{Object}
use Rattle.su_schema.specs.Entries.{relation_names, object_names}
use Rattle.su_schema.specs.NameChecks.{first_failing}
use Rattle.su_schema.specs.Checks.{checks, pair_checks}
use Rattle.su_schema.specs.Known.{is_known, columns_at, number_of}
use Rattle.su_schema.proofs.Numbers.{is_known-place_of, known-None, known-Some}
use Rattle.su_schema.proofs.Accepted.{accepted, is_refused}
use Rattle.su_schema.proofs.OneMore.{stays_valid, object_shape, sets_kept}
use Rattle.su_schema.specs.inside.Kept.{object_on}
use Rattle.su_schema.specs.Definitions.{links_of}
use Rattle.su_schema.proofs.schemas.Schema.object.Goals as goal

pub returns-then-is_some-clause-refused : goal.returns-then-is_some-clause-refused
returns-then-is_some-clause-refused c =
    let old : is_known (object_names c.args.self.now) c.args.name.now ≡ true = is_known-place_of (object_names c.args.self.now) c.args.name.now ∙ ap is_some (sym c.find_object.ensures) ∙ sym c.if-is_some.ensures in
    inr (rw c.in_ok-new.ensures (is_refused c.args.self.now (Object c.args.name.now c.args.relation.now c.args.pairs.now) _ (rw old refl)))

pub returns-then-objects-ge64-clause-refused : goal.returns-then-objects-ge64-clause-refused
returns-then-objects-ge64-clause-refused c =
    let new : is_known (object_names c.args.self.now) c.args.name.now ≡ false = is_known-place_of (object_names c.args.self.now) c.args.name.now ∙ ap is_some (sym c.find_object.ensures) ∙ sym c.if-is_some.ensures in
    let more : 64 ≤ length c.args.self.now.objects = rw (← c.objects.ensures) c.if-objects-ge64.true in
    let full : nat_le 64 (length c.args.self.now.objects) ≡ true = grind (arith, nat_tests, more) in
    inr (is_refused c.args.self.now (Object c.args.name.now c.args.relation.now c.args.pairs.now) _ (rw (new, full) refl))

pub returns-in-None-clause-refused : goal.returns-in-None-clause-refused
returns-in-None-clause-refused c =
    let new : is_known (object_names c.args.self.now) c.args.name.now ≡ false = is_known-place_of (object_names c.args.self.now) c.args.name.now ∙ ap is_some (sym c.find_object.ensures) ∙ sym c.if-is_some.ensures in
    let less : length c.args.self.now.objects < 64 = rw (← c.objects.ensures) c.if-objects-ge64.false in
    let room : nat_le 64 (length c.args.self.now.objects) ≡ false = grind (arith, nat_tests, less) in
    let out : is_known (relation_names c.args.self.now) c.args.relation.now ≡ false = known-None (relation_names c.args.self.now) c.args.relation.now (sym c.in-None.ensures) in
    inr (rw c.in_ok-new-in-None.ensures (is_refused c.args.self.now (Object c.args.name.now c.args.relation.now c.args.pairs.now) _ (rw (new, room, out) refl)))

pub returns-in_err-object-clause-refused : goal.returns-in_err-object-clause-refused
returns-in_err-object-clause-refused c =
    let p = err_from_is_err_and c.from_residual-in_err-object.result c.from_residual-in_err-object.ensures.1 in
    let new : is_known (object_names c.args.self.now) c.args.name.now ≡ false = is_known-place_of (object_names c.args.self.now) c.args.name.now ∙ ap is_some (sym c.find_object.ensures) ∙ sym c.if-is_some.ensures in
    let less : length c.args.self.now.objects < 64 = rw (← c.objects.ensures) c.if-objects-ge64.false in
    let room : nat_le 64 (length c.args.self.now.objects) ≡ false = grind (arith, nat_tests, less) in
    let found = known-Some (relation_names c.args.self.now) c.args.relation.now c.in-Some.r (sym c.in-Some.ensures) in
    rw (p.1, p.2)
    (elim c.in_err-object.ensures.refused [
      | inl none ↦ inl none
      | inr fails ↦ inr (is_refused c.args.self.now (Object c.args.name.now c.args.relation.now c.args.pairs.now) _ (rw (new, room, found.0) (subst (λ (r : ℕ). first_failing (pair_checks c.args.self.now (columns_at c.args.self.now r) [] c.args.pairs.now) ≡ Some c.in_err-object.field-0.0) (sym found.1) fails)))
    ])

pub invariant_of-self-2 : goal.invariant_of-self-2
invariant_of-self-2 c =
    let new : is_known (object_names c.args.self.now) c.args.name.now ≡ false = is_known-place_of (object_names c.args.self.now) c.args.name.now ∙ ap is_some (sym c.find_object.ensures) ∙ sym c.if-is_some.ensures in
    let less : length c.args.self.now.objects < 64 = rw (← c.objects.ensures) c.if-objects-ge64.false in
    let room : nat_le 64 (length c.args.self.now.objects) ≡ false = grind (arith, nat_tests, less) in
    let found = known-Some (relation_names c.args.self.now) c.args.relation.now c.in-Some.r (sym c.in-Some.ensures) in
    let none : first_failing (checks c.args.self.now (Object c.args.name.now c.args.relation.now c.args.pairs.now)) ≡ None = rw (new, room, found.0) (subst (λ (r : ℕ). first_failing (pair_checks c.args.self.now (columns_at c.args.self.now r) [] c.args.pairs.now) ≡ None) (sym found.1) c.in_ok-object.ensures.passed) in
    let made : c.in_ok-object.object ≡ object_on (number_of (relation_names c.args.self.now) c.args.relation.now) (links_of c.args.self.now (columns_at c.args.self.now (number_of (relation_names c.args.self.now) c.args.relation.now)) c.args.pairs.now) = rw found.1 c.in_ok-object.ensures.object in
    let shape = object_shape c.self.inside c.args.self.now c.self.view_is _ _ _ c.args.name.now c.args.relation.now c.args.pairs.now made c.in_ok-name.ensures.ok new c.in_ok-insert.ensures.entries in
    record {
      valid = stays_valid c.self.inside c.args.self.now _ (Object c.args.name.now c.args.relation.now c.args.pairs.now) c.self.view_is c.self.invariant.valid c.requires none shape;
      attribute_sets = sets_kept c.self.inside c.args.self.now c.self.view_is _ _ _ c.args.name.now c.args.relation.now c.args.pairs.now made c.in_ok-name.ensures.ok new c.in_ok-insert.ensures.entries c.self.invariant.attribute_sets;
    }

pub returns-clause-ok : goal.returns-clause-ok
returns-clause-ok c =
    let new : is_known (object_names c.args.self.now) c.args.name.now ≡ false = is_known-place_of (object_names c.args.self.now) c.args.name.now ∙ ap is_some (sym c.find_object.ensures) ∙ sym c.if-is_some.ensures in
    let less : length c.args.self.now.objects < 64 = rw (← c.objects.ensures) c.if-objects-ge64.false in
    let room : nat_le 64 (length c.args.self.now.objects) ≡ false = grind (arith, nat_tests, less) in
    let found = known-Some (relation_names c.args.self.now) c.args.relation.now c.in-Some.r (sym c.in-Some.ensures) in
    let none : first_failing (checks c.args.self.now (Object c.args.name.now c.args.relation.now c.args.pairs.now)) ≡ None = rw (new, room, found.0) (subst (λ (r : ℕ). first_failing (pair_checks c.args.self.now (columns_at c.args.self.now r) [] c.args.pairs.now) ≡ None) (sym found.1) c.in_ok-object.ensures.passed) in
    let made : c.in_ok-object.object ≡ object_on (number_of (relation_names c.args.self.now) c.args.relation.now) (links_of c.args.self.now (columns_at c.args.self.now (number_of (relation_names c.args.self.now) c.args.relation.now)) c.args.pairs.now) = rw found.1 c.in_ok-object.ensures.object in
    let shape = object_shape c.self.inside c.args.self.now c.self.view_is _ _ _ c.args.name.now c.args.relation.now c.args.pairs.now made c.in_ok-name.ensures.ok new c.in_ok-insert.ensures.entries in
    accepted c.args.self.now _ (Object c.args.name.now c.args.relation.now c.args.pairs.now) none shape
