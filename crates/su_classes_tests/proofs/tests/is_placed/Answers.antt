-- The attributes that the row has were tested to be below its width, and at each of these its item to be below the bound.
use Rattle.std.proofs.Common.{refl, arith}
use Rattle.su_classes_tests.proofs.tests.is_placed.Goals as goal

pub returns : goal.returns
returns c = λ _. record {
  narrow = omega arith;
  wide = λ a h. let l = c.if-not-is_below.ensures refl a h in omega arith;
  below = λ a h. let l = c.if-not-is_below.ensures refl a h in c.loop-a.invariant a (omega arith);
}
