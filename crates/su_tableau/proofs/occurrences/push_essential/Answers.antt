-- The sets so far are as many as the rows before, each with the essential columns of its row; pushing one more keeps them at their places.
use Rattle.std.proofs.Common.{◌≡◌, ◌↔◌, ℕ, ◌+◌, length, IsTrue, get_or, sym, ap, ◌∙◌, subst, arith}
use Rattle.std.proofs.lemmas.List.{length_push}
use Rattle.std.specs.Int.{bit_at}
use Rattle.std.specs.FinSet.{FinSet, contains, empty}
use Rattle.std.specs.Ordering.{nat_cmp}
use Rattle.su_base.proofs.Items.{get_or-push_each}
use Rattle.su_tableau.specs.Essential.{IsEssential}
use Rattle.su_tableau.proofs.occurrences.push_essential.Goals as goal

pub loop-row-preserved : goal.loop-row-preserved
loop-row-preserved c =
    let Q : ℕ → FinSet nat_cmp → Type 0 = λ i s. bit_at c.args.mask i ≡ 1 → (n : ℕ) → IsTrue (contains s n) ↔ IsEssential c.args.t.now c.args.mask i n in
    let is = c.in_ok-push.ensures.ok in
    record {
      rows = ap length is ∙ length_push c.loop-row.all c.columns_at.result ∙ ap (λ n. n + 1) c.loop-row.invariant.rows;
      columns = λ i low. subst (λ l. Q i (get_or l i empty)) (sym is) (get_or-push_each Q empty c.loop-row.all c.columns_at.result c.loop-row.row c.loop-row.invariant.rows c.loop-row.invariant.columns c.columns_at.ensures i low);
    }

pub returns-clause-columns : goal.returns-clause-columns
returns-clause-columns c = λ i n low one. c.loop-row.invariant.columns i (omega arith) one n
