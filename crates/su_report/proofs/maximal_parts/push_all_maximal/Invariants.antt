use Rattle.su_report.proofs.Hanging.{IsHung}
use Rattle.su_report.proofs.maximal_parts.push_all_maximal.Given as goal

abbrev pub invariant-loop-k : goal.invariant-loop-k
invariant-loop-k l = IsHung l.schema l.maximal l.k l.fault l.fn.out.items l.out.items
