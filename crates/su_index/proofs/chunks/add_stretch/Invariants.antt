use Rattle.std.proofs.Common.{◌≡◌, ◌+◌, ◌++◌, take}
use Rattle.su_index.specs.Entries.{entries_of, stretch}
use Rattle.su_index.specs.inside.Chunks.{rank_in}
use Rattle.su_index.proofs.chunks.add_stretch.Given as goal

abbrev pub invariant-loop : goal.invariant-loop
invariant-loop l = record {
  place : rank_in l.chunks l.place ≡ l.at + l.counter;
  listed : l.positions.items ≡ l.fn.positions.items ++ take l.counter (stretch (entries_of l.chunks) l.at l.count);
}
