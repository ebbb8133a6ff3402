use Rattle.std.proofs.Common.{◌≡◌, length}
use Rattle.su_reduce.specs.inside.Partnered.{AreKeys}
use Rattle.su_reduce.proofs.partners.rows_of.Given as goal

abbrev pub invariant-loop-i : goal.invariant-loop-i
invariant-loop-i l = record {
  width : l.keys.width ≡ length l.side.key.now;
  keys : AreKeys l.side.rows.now.rows l.side.marks.now l.side.key.now l.i l.keys.rows;
}
