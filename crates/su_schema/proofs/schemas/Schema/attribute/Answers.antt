-- Each test is one of the definition's checks, in their order: where one fails those before it have passed, and where none fails the schema has one attribute more.
use Rattle.std.proofs.Common.{◌≡◌, ◌<◌, ◌≤◌, None, true, false, inr, nat_le, length, is_some, refl, sym, ap, ◌∙◌, arith}
use Rattle.std.proofs.lemmas.Bool.Decides.{nat_tests}
use Rattle.su_schema.specs.declared.definitions.Definition.TheVariants.{Attribute}
use Rattle.su_schema.specs.Entries.{attribute_names}
use Rattle.su_schema.specs.NameChecks.{first_failing}
use Rattle.su_schema.specs.Checks.{checks}
use Rattle.su_schema.specs.Known.{is_known}
use Rattle.su_schema.proofs.Numbers.{is_known-place_of}
use Rattle.su_schema.proofs.Accepted.{accepted, is_refused}
use Rattle.su_schema.proofs.OneMore.{stays_valid, attribute_shape}
use Rattle.su_schema.proofs.schemas.Schema.attribute.Goals as goal

pub returns-then-is_some-clause-refused : goal.returns-then-is_some-clause-refused
returns-then-is_some-clause-refused c =
    let old : is_known (attribute_names c.args.self.now) c.args.name.now ≡ true = is_known-place_of (attribute_names c.args.self.now) c.args.name.now ∙ ap is_some (sym c.find_attribute.ensures) ∙ sym c.if-is_some.ensures in
    inr (rw c.in_ok-new.ensures (is_refused c.args.self.now (Attribute c.args.name.now c.args.kind) _ (rw old refl)))

pub returns-then-attributes-ge128-clause-refused : goal.returns-then-attributes-ge128-clause-refused
returns-then-attributes-ge128-clause-refused c =
    let new : is_known (attribute_names c.args.self.now) c.args.name.now ≡ false = is_known-place_of (attribute_names c.args.self.now) c.args.name.now ∙ ap is_some (sym c.find_attribute.ensures) ∙ sym c.if-is_some.ensures in
    let more : 128 ≤ length c.args.self.now.attributes = rw (← c.attributes.ensures) c.if-attributes-ge128.true in
    let full : nat_le 128 (length c.args.self.now.attributes) ≡ true = grind (arith, nat_tests, more) in
    inr (is_refused c.args.self.now (Attribute c.args.name.now c.args.kind) _ (rw (new, full) refl))

pub invariant_of-self-2 : goal.invariant_of-self-2
invariant_of-self-2 c =
    let new : is_known (attribute_names c.args.self.now) c.args.name.now ≡ false = is_known-place_of (attribute_names c.args.self.now) c.args.name.now ∙ ap is_some (sym c.find_attribute.ensures) ∙ sym c.if-is_some.ensures in
    let less : length c.args.self.now.attributes < 128 = rw (← c.attributes.ensures) c.if-attributes-ge128.false in
    let room : nat_le 128 (length c.args.self.now.attributes) ≡ false = grind (arith, nat_tests, less) in
    let none : first_failing (checks c.args.self.now (Attribute c.args.name.now c.args.kind)) ≡ None = rw (new, room) refl in
    let shape = attribute_shape c.self.inside c.args.self.now c.self.view_is _ _ c.args.kind c.args.name.now c.in_ok-name.ensures.ok new c.in_ok-insert.ensures.entries in
    record {
      valid = stays_valid c.self.inside c.args.self.now _ (Attribute c.args.name.now c.args.kind) c.self.view_is c.self.invariant.valid c.requires none shape;
      attribute_sets = c.self.invariant.attribute_sets;
    }

pub returns-clause-ok : goal.returns-clause-ok
returns-clause-ok c =
    let new : is_known (attribute_names c.args.self.now) c.args.name.now ≡ false = is_known-place_of (attribute_names c.args.self.now) c.args.name.now ∙ ap is_some (sym c.find_attribute.ensures) ∙ sym c.if-is_some.ensures in
    let less : length c.args.self.now.attributes < 128 = rw (← c.attributes.ensures) c.if-attributes-ge128.false in
    let room : nat_le 128 (length c.args.self.now.attributes) ≡ false = grind (arith, nat_tests, less) in
    let none : first_failing (checks c.args.self.now (Attribute c.args.name.now c.args.kind)) ≡ None = rw (new, room) refl in
    let shape = attribute_shape c.self.inside c.args.self.now c.self.view_is _ _ c.args.kind c.args.name.now c.in_ok-name.ensures.ok new c.in_ok-insert.ensures.entries in
    accepted c.args.self.now _ (Attribute c.args.name.now c.args.kind) none shape
