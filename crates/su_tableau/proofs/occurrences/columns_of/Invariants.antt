use Rattle.std.proofs.Common.{ℕ, ◌<◌, ◌↔◌, IsTrue}
use Rattle.std.specs.FinSet.{contains}
use Rattle.su_tableau.specs.Essential.{IsEssential}
use Rattle.su_tableau.proofs.occurrences.columns_of.Given as goal

abbrev pub invariant-loop-c : goal.invariant-loop-c
invariant-loop-c l = (n : ℕ) → IsTrue (contains l.columns n) ↔ ((n < l.c) × IsEssential l.t l.mask l.row n)
