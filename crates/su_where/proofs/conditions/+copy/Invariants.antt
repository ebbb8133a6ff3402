use Rattle.std.proofs.Common.{◌≡◌, take}
use Rattle.su_where.proofs.conditions.+copy.Given as goal

abbrev pub invariant-copy_all-loop-part : goal.invariant-copy_all-loop-part
invariant-copy_all-loop-part l = l.copied ≡ take l.part-index l.parts
