-- The set has exactly the masked rows so far to which the row goes by itself, tested at the places that it shares with itself and with the head.
use Rattle.std.proofs.Common.{◌≡◌, ℕ, sym, ap, ◌∙◌, true≢false, arith}
use Rattle.std.specs.Int.{bit_at}
use Rattle.su_map.specs.Lists.{row_of}
use Rattle.su_map.proofs.Members.{collect_none, collect_more, collect_same}
use Rattle.su_check.specs.inside.Agreement.{Goes}
use Rattle.su_refute.proofs.SharedPlaces.{goes_to, goes_from}
use Rattle.su_refute.proofs.nets.base_of.Goals as goal
use Rattle.su_refute.proofs.nets.base_of.Goals.{then-has+then-goes, else-has, else-has-via-then-has+else-goes, else-has-via-else-has}

pub goes-requires-clause-own : goal.goes-requires-clause-own
goes-requires-clause-own c = rw c.as_slice.ensures c.in_ok-own.ensures

pub goes-requires-clause-heads : goal.goes-requires-clause-heads
goes-requires-clause-heads c = rw c.as_slice-then-has.ensures c.in_ok-heads.ensures

pub loop-i-init : goal.loop-i-init
loop-i-init c = λ j. collect_none (λ j. bit_at c.args.mask j ≡ 1) (λ j. Goes c.args.t.now.head (row_of c.args.t.now c.args.row) (row_of c.args.t.now j)) j

pub loop-i-preserved : goal.loop-i-preserved
loop-i-preserved c =
    let t = c.args.t.now in let i = c.loop-i.i in
    let A = λ (j : ℕ). bit_at c.args.mask j ≡ 1 in
    let B = λ (j : ℕ). Goes t.head (row_of t c.args.row) (row_of t j) in
    elim c.if-has.branch [
      | then-has+then-goes w ↦
          collect_more A B c.loop-i.set c.if-has.set i (c.has.ensures.0 w.if-has.true) (goes_to t c.args.row i _ _ _ c.head-head.ensures c.row-cells.ensures.is w.row.ensures.is (w.goes.ensures.0 w.if-goes.true))
          (λ j ne. ap (λ m. bit_at m j) w.set-is ∙ w.with-set.ensures.same j ne) (ap (λ m. bit_at m i) w.set-is ∙ w.with-set.ensures.member) c.loop-i.invariant
      | else-has w ↦ collect_same A B c.loop-i.set c.if-has.set i w.set-is (λ a b.
          elim w.else-has.branch [
            | else-has-via-then-has+else-goes w' ↦ true≢false (sym (w'.goes.ensures.1 (goes_from t c.args.row i _ _ _ c.head-head.ensures c.row-cells.ensures.is w'.row.ensures.is b)) ∙ w'.if-goes.false)
            | else-has-via-else-has w' ↦ true≢false (sym (c.has.ensures.1 a) ∙ w'.if-has.false)
          ]) c.loop-i.invariant
    ]

pub returns : goal.returns
returns c = λ i. (
  λ h. let r = (c.loop-i.invariant i).0 h in let l = r.0 in (omega arith, r.1, r.2),
  λ h. let l = h.0 in (c.loop-i.invariant i).1 (omega arith, h.1, h.2),
)
