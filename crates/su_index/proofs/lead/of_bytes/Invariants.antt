use Rattle.std.proofs.Common.{◌≡◌, ◌<◌, ◌^◌, take}
use Rattle.su_index.specs.inside.Lead.{lead_of_bytes}
use Rattle.su_index.proofs.lead.of_bytes.Given as goal

abbrev pub invariant-loop-byte : goal.invariant-loop-byte
invariant-loop-byte l = record {
  lead : l.lead ≡ lead_of_bytes (take l.byte-index l.bytes);
  small : l.lead < 2 ^ 32;
}
