use Rattle.std.proofs.Common.{◌≡◌, ◌++◌}
use Rattle.std.specs.Prelude.{string_bytes}
use Rattle.std.specs.List.{flat_map, range_with_len}
use Rattle.su_bank.specs.Scripts.{bank_definitions, inserts_of}
use Rattle.su_bank.proofs.scripts.bank_script.Given as goal

abbrev pub invariant-loop-i : goal.invariant-loop-i
invariant-loop-i l = string_bytes l.script ≡ bank_definitions ++ flat_map inserts_of (range_with_len 1 l.i)
