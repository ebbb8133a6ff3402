-- A bit that is set in both numbers is set in their conjunction.
use Rattle.std.proofs.Common.{arith}
use Rattle.std.proofs.lemmas.Nat.Bits.{bit_at_and, bit_at-lt}
use Rattle.su_check.proofs.sets.both.Goals as goal

pub returns : goal.returns
returns c = λ j one other.
    let e = bit_at_and c.args.a c.args.b j in let l = bit_at-lt c.args.a j in let m = bit_at-lt c.args.b j in omega arith
