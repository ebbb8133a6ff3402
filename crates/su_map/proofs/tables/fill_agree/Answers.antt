-- The tables of the pairs of the rows so far are told; each row's tables lie apart, so that filling those of one leaves those of the rows before.
use Rattle.std.proofs.Common.{◌≡◌, ◌≢◌, ◌<◌, ◌*◌, ◌∙◌, ℕ, length, get_or, sym, subst, true≢false, arith, below_more}
use Rattle.std.specs.Int.{bit_at}
use Rattle.su_map.specs.inside.Targets.{IsTold}
use Rattle.su_map.proofs.AgreementTable.{told_kept}
use Rattle.su_map.proofs.tables.fill_agree.Goals as goal
use Rattle.su_map.proofs.tables.fill_agree.Goals.{then-has, else-has}

pub loop-i-preserved : goal.loop-i-preserved
loop-i-preserved c =
    let from = c.args.sides.now.from.now in let to = c.args.sides.now.to.now in let base = c.args.base.now in let n = c.loop-i.i in
    let P = λ (i : ℕ). (q : ℕ) → q < length from.rows → i ≢ q → bit_at c.args.sides.now.mask i ≡ 1 → bit_at c.args.sides.now.mask q ≡ 1 → bit_at (get_or c.args.near.now i 0) q ≡ 1 → IsTold from to base i q c.if-has.agree in
    elim c.if-has.branch [
      | then-has w ↦ below_more P n
          (λ p l q lq ne op oq near. subst (IsTold from to base p q) (sym w.agree-is) (told_kept from to base p q c.loop-i.agree w.fill_row.new.agree (n * 4096) w.fill_row.ensures.before (omega arith) c.requires.sides.small (c.loop-i.invariant p l q lq ne op oq near)))
          (λ q lq ne op oq near. subst (IsTold from to base n q) (sym w.agree-is) (w.fill_row.ensures.filled q lq ne oq near))
      | else-has w ↦ below_more P n
          (λ p l q lq ne op oq near. subst (IsTold from to base p q) (sym w.agree-is) (c.loop-i.invariant p l q lq ne op oq near))
          (λ q lq ne op oq near. absurd (true≢false (sym (c.has.ensures.1 op) ∙ w.if-has.false)))
    ]
