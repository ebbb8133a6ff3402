use Rattle.std.proofs.Common.{Contains, take}
use Rattle.su_show.proofs.minimal_lines.is_kept.Given as goal

abbrev pub invariant-loop-kept : goal.invariant-loop-kept
invariant-loop-kept l = ¬ Contains (take l.kept-index l.reduced.kept) l.number
