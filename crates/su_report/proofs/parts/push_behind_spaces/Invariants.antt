use Rattle.std.proofs.Common.{◌≡◌, ◌++◌, take}
use Rattle.su_show.specs.Values.{behind_spaces}
use Rattle.su_report.proofs.parts.push_behind_spaces.Given as goal

abbrev pub invariant-loop-name : goal.invariant-loop-name
invariant-loop-name l = l.out.items ≡ l.fn.out.items ++ behind_spaces (take l.name-index l.names)
