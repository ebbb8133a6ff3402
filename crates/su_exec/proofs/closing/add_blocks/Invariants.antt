use Rattle.std.proofs.Common.{◌≡◌, ◌<◌, ◌⊎◌, ℕ, List, [], ◌∷◌, length, get_or, Contains}
use Rattle.std.specs.Prelude.{map}
use Rattle.su_exec.specs.inside.Bodies.{IsGiven}
use Rattle.su_exec.specs.inside.Edges.{FitsAll, always}
use Rattle.su_exec.proofs.closing.add_blocks.Given as goal

abbrev pub invariant-loop-n : goal.invariant-loop-n
invariant-loop-n l = record {
  width : l.out.width ≡ l.initial.out.width;
  only : (r : List ℕ) → Contains l.out.rows r → Contains l.initial.out.rows r ⊎ IsGiven l.vars (l.three.first.now ∷ l.three.second.now ∷ l.three.third.now ∷ []) always r;
  all : (v : ℕ → ℕ) (i : ℕ) → FitsAll v (l.three.first.now ∷ l.three.second.now ∷ l.three.third.now ∷ []) → i < length l.three.first.now.rows → get_or l.three.first.now.rows i [] ≡ map v l.three.first.now.vars → get_or l.blocks i 0 < l.n → Contains l.out.rows (map v l.vars);
}
