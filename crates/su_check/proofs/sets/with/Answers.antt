-- A bit set in the set stays set in the disjunction, and bit i is set by the number that has it alone.
use Rattle.std.proofs.Common.{◌*◌, ◌^◌, ◌%◌, arith}
use Rattle.std.specs.Int.{w64}
use Rattle.std.proofs.lemmas.Nat.Bits.{bit_at_or, bit_at-lt, bit_at_set_same}
use Rattle.su_check.proofs.sets.with.Goals as goal

pub returns-clause-stays : goal.returns-clause-stays
returns-clause-stays c = λ j one.
    let b = 1 * 2 ^ c.args.i % 2 ^ 64 in
    let e = bit_at_or c.args.set b j in let l = bit_at-lt c.args.set j in let m = bit_at-lt b j in omega arith

pub returns-clause-member : goal.returns-clause-member
returns-clause-member c = bit_at_set_same w64 c.args.set c.args.i c.requires
