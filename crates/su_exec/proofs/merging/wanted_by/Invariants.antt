use Rattle.std.proofs.Common.{◌≡◌, ℕ, true, take}
use Rattle.su_exec.specs.inside.Bodies.{IsWanted}
use Rattle.su_exec.specs.inside.Checks.{check_vars}
use Rattle.su_exec.specs.inside.Edges.{has, among}
use Rattle.su_exec.proofs.merging.wanted_by.Given as goal

abbrev pub invariant-loop-edge : goal.invariant-loop-edge
invariant-loop-edge l = record {
  needed : (k : ℕ) → has l.needed k ≡ true → has l.wanted.items k ≡ true;
  edges : (k : ℕ) → among (take l.edge-index l.body.edges.items) k ≡ true → has l.wanted.items k ≡ true;
  only : (k : ℕ) → has l.wanted.items k ≡ true → IsWanted l.needed l.body.edges.items l.body.checks.items k;
}

abbrev pub invariant-loop-check : goal.invariant-loop-check
invariant-loop-check l = record {
  needed : (k : ℕ) → has l.needed k ≡ true → has l.wanted.items k ≡ true;
  edges : (k : ℕ) → among l.body.edges.items k ≡ true → has l.wanted.items k ≡ true;
  checks : (k : ℕ) → has (check_vars (take l.check-index l.body.checks.items)) k ≡ true → has l.wanted.items k ≡ true;
  only : (k : ℕ) → has l.wanted.items k ≡ true → IsWanted l.needed l.body.edges.items l.body.checks.items k;
}
