-- The row has the fewest targets among the rows so far, the least of those alike, and no row still to come is less; it begins as the least row of the set.
use Rattle.std.proofs.Common.{arith}
use Rattle.su_map.proofs.Members.{lowest_is, lowest_least}
use Rattle.su_refute.proofs.growing.fewest.Goals as goal

pub loop-q-init : goal.loop-q-init
loop-q-init c =
    let todo = c.args.todo in
    let low = lowest_is todo c.requires.some c.ranges.todo.fits in
    record {
      member = low.1;
      later = λ q one h. lowest_least todo _ q low.2 one;
      fewest = λ q h one. absurd (omega arith);
    }
