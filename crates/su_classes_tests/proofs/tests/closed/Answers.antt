-- The table has as many items as the bound that the pairs and the rows were tested against, so the tests give what closing asks.
use Rattle.std.proofs.Common.{◌≡◌, ◌<◌, ℕ, length, refl, subst, arith}
use Rattle.std.specs.Prelude.{All}
use Rattle.su_classes.specs.Items.{IsPlacedBelow}
use Rattle.su_classes_tests.proofs.tests.closed.Goals as goal

pub close-requires-clause-within : goal.close-requires-clause-within
close-requires-clause-within c =
    let size : c.args.items ≡ length c.deref_mut.result.now = omega (arith, c.in_ok-table.ensures.len, c.deref_mut.ensures.len) in
    subst (λ (n : ℕ). All (λ e. (e.left < n) × (e.right < n)) c.args.equal.now) size (c.if-not-are_within.ensures refl)

pub close-requires-clause-cells : goal.close-requires-clause-cells
close-requires-clause-cells c =
    let size : c.args.items ≡ length c.deref_mut.result.now = omega (arith, c.in_ok-table.ensures.len, c.deref_mut.ensures.len) in
    subst (λ (n : ℕ). All (IsPlacedBelow n) c.args.rows.now) size (c.if-not-are_placed.ensures refl)
