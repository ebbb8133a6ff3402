-- The needed attributes with each set of free ones are all that may be keys.
use Rattle.std.proofs.Common.{ap, length, arith}
use Rattle.su_advise.proofs.KeyRounds.{sets_of_free, rest_low, numbers_low}
use Rattle.su_advise.proofs.choosing.keys.Goals as goal

pub subsets-requires-clause-below : goal.subsets-requires-clause-below
subsets-requires-clause-below c = rw c.as_slice.ensures (numbers_low _ _ c.in_ok-numbers.ensures.exactly)

pub subsets-requires-clause-ascend : goal.subsets-requires-clause-ascend
subsets-requires-clause-ascend c = rw c.as_slice.ensures c.in_ok-numbers.ensures.exactly.ascends

pub keys_among-requires-clause-extras : goal.keys_among-requires-clause-extras
keys_among-requires-clause-extras c =
    let low = rest_low _ _ _ _ c.requires c.free_of-free.ensures in
    rw c.as_slice-2.ensures (record {
      free = c.free_of-free.result;
      free_are = c.free_of-free.ensures;
      differ = c.in_ok-extras.ensures.differ;
      sets = sets_of_free _ _ _ low c.in_ok-numbers.ensures.exactly (rw c.as_slice.ensures at c.in_ok-extras.ensures);
    })

pub returns-then-len-gt-MOST_FREE : goal.returns-then-len-gt-MOST_FREE
returns-then-len-gt-MOST_FREE c = record {
  free = c.free_of-free.result;
  free_are = record { needed = c.needed_of-needed.result; needed_are = c.needed_of-needed.ensures; members = c.free_of-free.ensures };
  many = let many = ap length c.in_ok-numbers.ensures.list in omega arith;
}
