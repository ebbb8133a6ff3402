-- The number of the digits so far, gone on with by those left, is that of all; at most 18 digits keep it below ten to the eighteenth, so no sum is past the range.
use Rattle.std.proofs.Common.{◌≤◌, ◌<◌, ◌^◌, ℕ, arith}
use Rattle.std.proofs.lemmas.Grind.{common_steps}
use Rattle.std.proofs.Math.Nat.{pow-le-pow_right}
use Rattle.su_csv.proofs.fields.digits_of.Goals as goal

-- a number of few digits is small
few : (value index : ℕ) → value < 10 ^ index → index ≤ 17 → value < 100000000000000000
few value index small le = omega (arith, small, pow-le-pow_right {n = 10} (omega arith) le)

pub overflow_mul-value : goal.overflow_mul-value
overflow_mul-value c =
    let small : c.loop-digit.value < 100000000000000000 = few _ c.loop-digit.digit-index c.loop-digit.invariant.small (omega arith) in
    grind (arith, common_steps)

pub overflow_add-value : goal.overflow_add-value
overflow_add-value c =
    let small : c.loop-digit.value < 100000000000000000 = few _ c.loop-digit.digit-index c.loop-digit.invariant.small (omega arith) in
    grind (arith, common_steps)

few_in_all : (value index : ℕ) → value < 10 ^ index → index ≤ 18 → value < 1000000000000000000
few_in_all value index small le = omega (arith, small, pow-le-pow_right {n = 10} (omega arith) le)

pub overflow_cast-result : goal.overflow_cast-result
overflow_cast-result c =
    let small : c.loop-digit.value < 1000000000000000000 = few_in_all _ c.loop-digit.digit-index c.loop-digit.invariant.small (omega arith) in
    grind (arith, common_steps)

pub returns : goal.returns
returns c =
    let small : c.loop-digit.value < 1000000000000000000 = few_in_all _ c.loop-digit.digit-index c.loop-digit.invariant.small (omega arith) in
    grind (arith, common_steps)
