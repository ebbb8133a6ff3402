use Rattle.std.proofs.Common.{◌≡◌, ℕ, ◌<◌, ◌↔◌, IsTrue, get_or}
use Rattle.std.specs.Int.{bit_at}
use Rattle.std.specs.FinSet.{contains, empty}
use Rattle.su_tableau.specs.Essential.{IsEssential}
use Rattle.su_tableau.proofs.occurrences.fill_essential.Given as goal

abbrev pub invariant-loop-row : goal.invariant-loop-row
invariant-loop-row l = (i : ℕ) → i < l.row → bit_at l.mask i ≡ 1 → (c : ℕ) → IsTrue (contains (get_or l.columns i empty) c) ↔ IsEssential l.t l.mask i c
