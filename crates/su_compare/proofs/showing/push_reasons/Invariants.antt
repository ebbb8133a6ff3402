use Rattle.std.proofs.Common.{◌≡◌, ◌++◌, flat_map, take}
use Rattle.su_compare.specs.Texts.{reason_line}
use Rattle.su_compare.proofs.showing.push_reasons.Given as goal

abbrev pub invariant-loop-reason : goal.invariant-loop-reason
invariant-loop-reason l = l.out.items ≡ l.fn.out.items ++ flat_map reason_line (take l.reason-index l.reasons)
