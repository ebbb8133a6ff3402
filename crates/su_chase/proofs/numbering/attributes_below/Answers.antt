-- The set has exactly the attributes below the next one, none at the start, and each attribute inserts itself.
use Rattle.std.proofs.Common.{◌↔◌, ◌<◌, ◌+◌, ℕ, sym, ap, subst, ◌∙◌, arith}
use Rattle.std.specs.Prelude.{IsTrue}
use Rattle.std.specs.Ordering.{nat_cmp}
use Rattle.std.specs.FinSet.{FinSet, contains, contains-empty}
use Rattle.std.proofs.lemmas.Bool.{true≢false}
use Rattle.su_tableau.proofs.EssentialCells.{set_more}
use Rattle.su_chase.proofs.numbering.attributes_below.Goals as goal

pub loop-a-init : goal.loop-a-init
loop-a-init c = λ n. (
  λ h. absurd (true≢false (sym h ∙ ap (λ (s : FinSet nat_cmp). contains s n) c.empty-all.ensures ∙ contains-empty nat_cmp n)),
  λ h. absurd (let l = h.0 in omega arith),
)

pub loop-a-preserved : goal.loop-a-preserved
loop-a-preserved c =
    subst (λ (s : FinSet nat_cmp). (n : ℕ) → IsTrue (contains s n) ↔ ((n < c.loop-a.a + 1) × Unit {0})) (sym c.insert-all.ensures)
    (set_more c.loop-a.all (λ n. Unit {0}) c.loop-a.a tt c.loop-a.invariant)

pub returns : goal.returns
returns c = λ n. (
  λ h. let w = (c.loop-a.invariant n).0 h in let l = w.0 in omega arith,
  λ l. (c.loop-a.invariant n).1 ((omega arith), tt),
)
