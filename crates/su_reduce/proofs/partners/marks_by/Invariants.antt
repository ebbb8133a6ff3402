use Rattle.std.proofs.Common.{◌≡◌, ◌↔◌, ◌<◌, ℕ, [], false, IsTrue, length, get_or}
use Rattle.su_reduce.specs.Sheets.{pick}
use Rattle.su_reduce.specs.inside.Partnered.{HasKey}
use Rattle.su_reduce.proofs.partners.marks_by.Given as goal

abbrev pub invariant-loop-i : goal.invariant-loop-i
invariant-loop-i l = record {
  long : length l.marks.items ≡ l.i;
  each : (p : ℕ) → p < l.i → IsTrue (get_or l.marks.items p false) ↔ (IsTrue (get_or l.side.marks.now p false) × HasKey l.keys (pick l.side.key.now (get_or l.side.rows.now.rows p [])));
}
