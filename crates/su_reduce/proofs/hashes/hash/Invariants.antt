use Rattle.std.proofs.Common.{◌≡◌, take}
use Rattle.su_reduce.specs.Sheets.{pick}
use Rattle.su_reduce.specs.Chains.{hash_of}
use Rattle.su_reduce.proofs.hashes.hash.Given as goal

abbrev pub invariant-loop-p : goal.invariant-loop-p
invariant-loop-p l = l.hash ≡ hash_of (pick (take l.p-index l.places) l.row)
