use Rattle.su_exec.specs.inside.Ranges.{AreCut, meets_code}
use Rattle.su_exec.proofs.narrowing.cut_by.Given as goal

abbrev pub invariant-loop-i : goal.invariant-loop-i
invariant-loop-i l = AreCut (meets_code l.codes l.x l.op l.bound) l.initial.edges.items l.edges.items
