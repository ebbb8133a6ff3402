-- The entries so far are the targets of their rows in the mask; a masked row of which the set is empty has no target.
use Rattle.std.proofs.Common.{◌≡◌, ◌<◌, ◌↔◌, ℕ, length, get_or, sym, ◌∙◌, subst, true≢false, arith, below_more}
use Rattle.std.specs.Int.{bit_at}
use Rattle.su_base.proofs.Items.{get_or-set_each}
use Rattle.su_map.specs.inside.Netted.{IsTarget}
use Rattle.su_map.proofs.targets.fill_base.Goals as goal
use Rattle.su_map.proofs.targets.fill_base.Goals.{then-has+else-targets-eq0, else-has}

pub targets_of-targets-requires-clause-plain : goal.targets_of-targets-requires-clause-plain
targets_of-targets-requires-clause-plain c = λ no. c.requires.plain c.loop-row.row (omega arith) (c.has.ensures.0 c.if-has.true) (λ one. true≢false (sym (c.has-repeats.ensures.1 one) ∙ no))

pub loop-row-preserved : goal.loop-row-preserved
loop-row-preserved c = λ i low.
    let n = c.loop-row.row in
    let P : ℕ → ℕ → Type 0 = λ i v. (j : ℕ) → bit_at c.args.from_mask i ≡ 1 → (bit_at v j ≡ 1) ↔ ((j < length c.args.to.now.rows) × (bit_at c.args.to_mask j ≡ 1) × IsTarget c.args.from.now c.args.to.now i j) in
    elim c.if-has.branch [
      | then-has+else-targets-eq0 w ↦ subst (λ b. P i (get_or b i 0)) (sym w.base-is) (get_or-set_each P 0 c.loop-row.base n w.targets_of-targets.result (omega arith) c.loop-row.invariant (λ j one. w.targets_of-targets.ensures j) i low)
      | else-has w ↦ subst (λ b. P i (get_or b i 0)) (sym w.base-is) (below_more (λ i. P i (get_or c.loop-row.base i 0)) n c.loop-row.invariant (λ j one. absurd (true≢false (sym (c.has.ensures.1 one) ∙ w.if-has.false))) i low)
    ]
