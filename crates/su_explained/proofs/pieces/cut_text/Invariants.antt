use Rattle.std.proofs.Common.{◌≡◌, ◌+◌, ◌≤◌, drop}
use Rattle.su_explained.specs.Pieces.{cut_on, cut_of}
use Rattle.su_explained.proofs.pieces.cut_text.Given as goal

abbrev pub invariant-loop-byte : goal.invariant-loop-byte
invariant-loop-byte l = record {
  taken : cut_on l.cut (drop l.byte-index l.text) ≡ cut_of l.text;
  counted : l.cut.next ≤ l.byte-index + 1;
}
