use Rattle.std.proofs.Common.{◌≡◌, length}
use Rattle.su_exec.specs.inside.Checks.{all_pass}
use Rattle.su_exec.specs.inside.Sifts.{AreMarks}
use Rattle.su_exec.proofs.merging.passing_marks.Given as goal

abbrev pub invariant-loop-i : goal.invariant-loop-i
invariant-loop-i l = record {
  length : length l.marks.items ≡ l.i;
  exact : AreMarks (all_pass l.codes l.tests) l.a.rows l.i l.marks.items;
}
