use Rattle.std.proofs.Common.{◌≡◌, take}
use Rattle.su_show.specs.Supports.{supports_text}
use Rattle.su_show.proofs.support_lines.supports.Given as goal

abbrev pub invariant-loop-support : goal.invariant-loop-support
invariant-loop-support l = l.out.items ≡ supports_text (take l.support-index l.supports)
