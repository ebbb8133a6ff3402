use Rattle.std.proofs.Common.{◌≡◌, ◌++◌, drop}
use Rattle.su_draw.specs.EscapedBytes.{escaped_on, escaped}
use Rattle.su_draw.proofs.escaping.escape.Given as goal

abbrev pub invariant-loop-byte : goal.invariant-loop-byte
invariant-loop-byte l = l.out.items ++ escaped_on l.begun (drop l.byte-index l.bytes) ≡ l.fn.out.items ++ escaped l.bytes
