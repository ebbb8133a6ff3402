-- `==` on values is equality.
use Rattle.std.proofs.Common.{◌≡◌, ◌↔◌, IsTrue}
use Rattle.su_base.specs.declared.values.Value.{Value}
use Rattle.su_base.specs.contracts.values.ValuePartialEq.TheImpl.{ghosts}
use Rattle.su_base.proofs.Same.{value_eq-Decides}

pub value_same : (a b : Value) → IsTrue (ghosts.eq a b) ↔ (a ≡ b)
value_same a b = value_eq-Decides a b
