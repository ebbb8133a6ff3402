use Rattle.std.proofs.Common.{ℕ, ◌<◌, length, get_or}
use Rattle.su_exec.specs.inside.Edges.{Edge}
use Rattle.su_exec.proofs.reducing.has_empty.Given as goal

abbrev pub invariant-loop-edge : goal.invariant-loop-edge
invariant-loop-edge l = (k : ℕ) (d : Edge ℕ) → k < l.edge-index → 0 < length (get_or l.edges k d).rows
