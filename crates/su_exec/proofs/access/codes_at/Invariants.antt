use Rattle.std.proofs.Common.{◌≡◌, ◌<◌, ℕ, [], ◌∷◌, get_or, Contains}
use Rattle.su_exec.proofs.access.codes_at.Given as goal

abbrev pub invariant-loop-i : goal.invariant-loop-i
invariant-loop-i l = record {
  width : l.codes.width ≡ 1;
  all : (i : ℕ) → i < l.i → Contains l.codes.rows (get_or (get_or l.edge.rows i []) l.place 0 ∷ []);
}
