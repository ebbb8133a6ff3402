use Rattle.std.proofs.Common.{◌≡◌, ◌++◌, drop}
use Rattle.su_show.specs.Replies.{maximal_lines}
use Rattle.su_show.proofs.schemas.push_all_maximal.Given as goal

abbrev pub invariant-loop-number : goal.invariant-loop-number
invariant-loop-number l = l.out.items ++ maximal_lines l.schema l.number (drop l.number l.maximal) ≡ l.fn.out.items ++ maximal_lines l.schema 0 l.maximal
