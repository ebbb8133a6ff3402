use Rattle.std.proofs.Common.{◌≡◌, ℕ, true, length}
use Rattle.su_exec.specs.inside.Edges.{Same, among}
use Rattle.su_exec.proofs.reducing.go_down.Given as goal

abbrev pub invariant-loop-link : goal.invariant-loop-link
invariant-loop-link l = record {
  same : Same l.initial.edges.items l.edges.items;
  len : length l.edges.items ≡ length l.initial.edges.items;
  vars : (k : ℕ) → among l.initial.edges.items k ≡ true → among l.edges.items k ≡ true;
}
