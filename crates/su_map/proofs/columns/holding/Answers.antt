-- The set so far has exactly the members below the next whose row holds the symbol at the column, and each row adds itself or nothing.
use Rattle.std.proofs.Common.{◌≡◌, ℕ, sym, ap, ◌∙◌, true≢false, arith}
use Rattle.std.specs.Int.{bit_at}
use Rattle.su_map.specs.inside.Targets.{HoldsAt}
use Rattle.su_map.proofs.Cells.{read_holds}
use Rattle.su_map.proofs.Members.{collect_none, collect_more, collect_same}
use Rattle.su_map.proofs.columns.holding.Goals as goal
use Rattle.su_map.proofs.columns.holding.Goals.{then-has+then-same, else-has, else-has-via-then-has+else-same, else-has-via-else-has}

pub loop-j-init : goal.loop-j-init
loop-j-init c = λ i. collect_none (λ i. bit_at c.args.set i ≡ 1) (HoldsAt c.args.to.now c.args.column c.args.x.now) i

pub loop-j-preserved : goal.loop-j-preserved
loop-j-preserved c =
    let to = c.args.to.now in let column = c.args.column in let x = c.args.x.now in let j = c.loop-j.j in
    let A = λ (i : ℕ). bit_at c.args.set i ≡ 1 in
    let B = HoldsAt to column x in
    elim c.if-has.branch [
      | then-has+then-same w ↦
          let there = read_holds to j column w.row.result.now w.index-row-column.result w.row.ensures.is (omega arith) w.index-row-column.is in
          collect_more A B c.loop-j.left c.if-has.left j (c.has.ensures.0 w.if-has.true) (λ d. there d ∙ w.same.ensures.0 w.if-same.true)
          (λ i ne. ap (λ m. bit_at m i) w.left-is ∙ w.with-left.ensures.same i ne) (ap (λ m. bit_at m j) w.left-is ∙ w.with-left.ensures.member) c.loop-j.invariant
      | else-has w ↦ collect_same A B c.loop-j.left c.if-has.left j w.left-is (λ a b.
          elim w.else-has.branch [
            | else-has-via-then-has+else-same w' ↦
                let there = read_holds to j column w'.row.result.now w'.index-row-column.result w'.row.ensures.is (omega arith) w'.index-row-column.is in
                true≢false (sym (w'.same.ensures.1 (sym (there x) ∙ b x)) ∙ w'.if-same.false)
            | else-has-via-else-has w' ↦ true≢false (sym (c.has.ensures.1 a) ∙ w'.if-has.false)
          ]) c.loop-j.invariant
    ]

pub returns : goal.returns
returns c = λ i. (
  λ h. let r = (c.loop-j.invariant i).0 h in let l = r.0 in (omega arith, r.1, r.2),
  λ h. let l = h.0 in (c.loop-j.invariant i).1 (omega arith, h.1, h.2),
)
