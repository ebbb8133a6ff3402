-- No edge so far is an ear among those left, as none of them could be its parent; so where the edges end without one there is no ear.
use Rattle.std.proofs.Common.{ℕ, ◌<◌, List, [], length, get_or, true≢false, sym, subst, ◌∙◌, arith, below_more}
use Rattle.std.specs.Ordering.{nat_cmp}
use Rattle.std.specs.FinSet.{FinSet}
use Rattle.std.proofs.lemmas.List.{get_or_default}
use Rattle.su_reduce.specs.inside.Partners.{In, IsParentBy, without}
use Rattle.su_reduce.proofs.Rounds.{in_without}
use Rattle.su_reduce.proofs.orders.find_ear.Goals as goal
use Rattle.su_reduce.proofs.orders.find_ear.Goals.{then-contains+in_default, else-contains}

pub parent_of-requires : goal.parent_of-requires
parent_of-requires c = λ j m.
    let w = (in_without c.args.left c.loop-e.e j).0 (subst (λ (s : FinSet nat_cmp). In s j) c.take_out.ensures m) in
    let l : j < length c.args.table.now = c.requires.within j w.0 in
    let few = c.requires.few in
    omega (arith, l, few)

pub loop-e-preserved : goal.loop-e-preserved
loop-e-preserved c =
    let table = c.args.table.now in
    let left = c.args.left in
    let n = c.loop-e.e in
    elim c.if-contains.branch [
      | then-contains+in_default w ↦ λ e parent.
          below_more (λ (e : ℕ). In left e → IsParentBy (get_or table e []) (without left e) parent → ⊥) n (λ e l. c.loop-e.invariant e parent l)
          (λ m h. w.in_default.ensures parent
          (subst (λ (s : FinSet nat_cmp). IsParentBy w.as_slice.result.now s parent) (sym w.take_out.ensures)
          (subst (λ (sets : List (FinSet nat_cmp)). IsParentBy sets (without left n) parent) (sym (w.as_slice.ensures ∙ w.index-table-e.is ∙ get_or_default table n w.index-table-e.result [] c.loop-e-test.true)) h))) e
      | else-contains w ↦ λ e parent.
          below_more (λ (e : ℕ). In left e → IsParentBy (get_or table e []) (without left e) parent → ⊥) n (λ e l. c.loop-e.invariant e parent l)
          (λ m h. true≢false (sym m ∙ (sym c.contains.ensures ∙ w.if-contains.false))) e
    ]
