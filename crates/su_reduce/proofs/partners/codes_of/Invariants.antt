use Rattle.std.proofs.Common.{ℕ, ◌<◌, [], length, get_or}
use Rattle.su_reduce.specs.inside.Partnered.{AreCodes}
use Rattle.su_reduce.proofs.partners.codes_of.Given as goal

abbrev pub invariant-loop-i : goal.invariant-loop-i
invariant-loop-i l = record {
  room : (j : ℕ) → j < length l.side.rows.now.rows → get_or (get_or l.side.rows.now.rows j []) (get_or l.side.key.now 0 0) 0 < length l.codes.items;
  codes : AreCodes l.side.rows.now.rows l.side.marks.now l.side.key.now l.i l.codes.items;
}
