use Rattle.std.proofs.Common.{◌≡◌, drop}
use Rattle.su_draw.specs.Widths.{width_from}
use Rattle.su_draw.proofs.measures.width_of.Given as goal

abbrev pub invariant-loop-byte : goal.invariant-loop-byte
invariant-loop-byte l = width_from l.width (drop l.byte-index l.text) ≡ width_from 0 l.text
