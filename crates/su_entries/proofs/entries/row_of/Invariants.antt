use Rattle.std.proofs.Common.{◌≡◌, take}
use Rattle.su_entries.specs.Entries.{entry_of, HoldsRow}
use Rattle.su_entries.proofs.entries.row_of.Given as goal

abbrev pub invariant-loop-at : goal.invariant-loop-at
invariant-loop-at l = record {
  read : entry_of l.row ≡ take l.at l.entry;
  held : HoldsRow (take l.at l.entry);
}
