use Rattle.std.proofs.Common.{◌≡◌, ◌⊎◌, ◌<◌, ℕ, List, [], ◌∷◌, get_or, Contains}
use Rattle.su_exec.specs.inside.Bodies.{IsGiven}
use Rattle.su_exec.specs.inside.Edges.{always}
use Rattle.su_reduce.specs.Sheets.{pick}
use Rattle.su_exec.proofs.closing.add_given.Given as goal

abbrev pub invariant-loop-i : goal.invariant-loop-i
invariant-loop-i l = record {
  width : l.out.width ≡ l.initial.out.width;
  kept : (r : List ℕ) → Contains l.initial.out.rows r → Contains l.out.rows r;
  only : (r : List ℕ) → Contains l.out.rows r → Contains l.initial.out.rows r ⊎ IsGiven l.vars (l.g ∷ []) always r;
  all : (j : ℕ) → j < l.i → Contains l.out.rows (pick l.places.items (get_or l.g.rows j []));
}
