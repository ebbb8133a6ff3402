use Rattle.std.proofs.Common.{◌≡◌, ◌++◌, drop}
use Rattle.su_entries.specs.Entries.{entry_of}
use Rattle.su_entries.proofs.entries.fill_entry.Given as goal

abbrev pub invariant-loop-value : goal.invariant-loop-value
invariant-loop-value l = l.entry ++ entry_of (drop l.value-index l.value-items) ≡ entry_of l.value-items
