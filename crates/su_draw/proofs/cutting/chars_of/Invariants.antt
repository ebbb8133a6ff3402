use Rattle.std.proofs.Common.{◌≡◌, ◌≤◌, drop}
use Rattle.su_draw.specs.Cutting.{chars_from}
use Rattle.su_draw.proofs.cutting.chars_of.Given as goal

abbrev pub invariant-loop-byte : goal.invariant-loop-byte
invariant-loop-byte l = record {
  counted : chars_from l.chars (drop l.byte-index l.text) ≡ chars_from 0 l.text;
  below : l.chars ≤ l.byte-index;
}
