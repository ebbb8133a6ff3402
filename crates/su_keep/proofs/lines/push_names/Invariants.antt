use Rattle.std.proofs.Common.{◌≡◌, ◌++◌, drop}
use Rattle.std.specs.Prelude.{string_bytes}
use Rattle.su_keep.specs.Lines.{names_text}
use Rattle.su_keep.proofs.lines.push_names.Given as goal

abbrev pub invariant-loop-name : goal.invariant-loop-name
invariant-loop-name l = string_bytes l.out ++ names_text (drop l.name-index l.names) ≡ string_bytes l.fn.out ++ names_text l.names
