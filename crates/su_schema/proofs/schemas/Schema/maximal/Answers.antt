-- Where fewer than 64 sets are declared and the names pass their checks, the whole definition does; so the schema with one set more is valid.
use Rattle.std.proofs.Common.{◌≡◌, ◌<◌, None, false, nat_le, length, refl, arith}
use Rattle.std.proofs.lemmas.Bool.Decides.{nat_tests}
use Rattle.su_schema.specs.declared.definitions.Definition.TheVariants.{Maximal}
use Rattle.su_schema.specs.NameChecks.{first_failing}
use Rattle.su_schema.specs.Checks.{checks}
use Rattle.su_schema.proofs.OneMore.{stays_valid, maximal_shape}
use Rattle.su_schema.proofs.schemas.Schema.maximal.Goals as goal

pub invariant_of-self-2 : goal.invariant_of-self-2
invariant_of-self-2 c =
    let less : length c.args.self.now.declared < 64 = rw (← c.declared.ensures) c.if-declared-ge64.false in
    let room : nat_le 64 (length c.args.self.now.declared) ≡ false = grind (arith, nat_tests, less) in
    let none : first_failing (checks c.args.self.now (Maximal c.args.objects.now)) ≡ None = rw (room, c.in_ok-objects.ensures.passed) refl in
    let shape = maximal_shape c.self.inside c.args.self.now c.self.view_is _ c.args.objects.now _ c.in_ok-push.ensures.ok c.in_ok-objects.ensures.numbers in
    record {
      valid = stays_valid c.self.inside c.args.self.now _ (Maximal c.args.objects.now) c.self.view_is c.self.invariant.valid c.requires none shape;
      attribute_sets = c.self.invariant.attribute_sets;
    }
