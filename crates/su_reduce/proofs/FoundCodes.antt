-- Codes of values.
use Rattle.std.proofs.Common.{◌≡◌, ℕ, List, Some, length, get_or, refl, sym, slice_get}
use Rattle.std.specs.List.{position}
use Rattle.std.proofs.lemmas.Option.{slice_get_read}
use Rattle.std.proofs.lemmas.List.Quantifiers.{position-Some}
use Rattle.su_base.proofs.Same.{value_eq-Decides}
use Rattle.su_base.specs.declared.values.Value.{Value}
use Rattle.su_base.specs.contracts.values.ValuePartialEq.TheImpl.{ghosts}

-- the place that `==` finds is the value's
pub found : (values : List Value) (v : Value) (i : ℕ) → Some i ≡ position (ghosts.eq v) values → slice_get values i ≡ Some v
found values v i e =
    let at = position-Some (ghosts.eq v) values i v (sym e) in
    let is : v ≡ get_or values i v = (value_eq-Decides v (get_or values i v)).0 at.1 in
    slice_get_read values (length values) i v refl at.0 is
