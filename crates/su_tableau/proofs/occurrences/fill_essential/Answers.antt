-- The sets written so far are the essential columns of their rows, and writing the next one leaves those of the rows before as they are.
use Rattle.std.proofs.Common.{◌≡◌, ◌↔◌, ℕ, IsTrue, arith}
use Rattle.std.specs.Int.{bit_at}
use Rattle.std.specs.FinSet.{FinSet, contains, empty}
use Rattle.std.specs.Ordering.{nat_cmp}
use Rattle.su_base.proofs.Items.{get_or-set_each}
use Rattle.su_tableau.specs.Essential.{IsEssential}
use Rattle.su_tableau.proofs.occurrences.fill_essential.Goals as goal

pub loop-row-preserved : goal.loop-row-preserved
loop-row-preserved c =
    let Q : ℕ → FinSet nat_cmp → Type 0 = λ i s. bit_at c.args.mask i ≡ 1 → (n : ℕ) → IsTrue (contains s n) ↔ IsEssential c.args.t.now c.args.mask i n in
    get_or-set_each Q empty c.loop-row.columns c.loop-row.row c.columns_at-own.result (omega arith) c.loop-row.invariant c.columns_at-own.ensures

pub returns : goal.returns
returns c = λ i n low one. c.loop-row.invariant i (omega arith) one n
