use Rattle.std.proofs.Common.{◌≡◌, ◌++◌, flat_map, take}
use Rattle.su_show.specs.Replies.{by_line}
use Rattle.su_show.proofs.closures.push_steps.Given as goal

abbrev pub invariant-loop-number : goal.invariant-loop-number
invariant-loop-number l = l.out.items ≡ l.fn.out.items ++ flat_map (by_line l.schema) (take l.number-index l.used)
