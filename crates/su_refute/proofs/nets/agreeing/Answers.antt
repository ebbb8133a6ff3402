-- The set has exactly the masked rows so far that hold what the target holds at the places; where there are no places every masked row agrees.
use Rattle.std.proofs.Common.{◌≡◌, ℕ, sym, ap, ◌∙◌, subst, true≢false, arith}
use Rattle.std.specs.Int.{bit_at}
use Rattle.su_tableau.proofs.Members.{member_below}
use Rattle.su_map.specs.Lists.{row_of}
use Rattle.su_map.proofs.Members.{collect_none, collect_more, collect_same}
use Rattle.su_refute.specs.inside.Nets.{AgreeInPlaces}
use Rattle.su_refute.proofs.SharedPlaces.{none_agree}
use Rattle.su_refute.proofs.nets.agreeing.Goals as goal
use Rattle.su_refute.proofs.nets.agreeing.Goals.{then-has+then-agree_at, else-has, else-has-via-then-has+else-agree_at, else-has-via-else-has}

pub returns-then-is_empty : goal.returns-then-is_empty
returns-then-is_empty c = λ i. (
  λ one. (member_below c.args.mask _ i c.requires.mask one, one, none_agree c.args.places.now c.args.target.now (row_of c.args.t.now i) (sym c.is_empty.ensures ∙ c.if-is_empty.true)),
  λ h. h.1,
)

pub loop-i-init : goal.loop-i-init
loop-i-init c = λ j. collect_none (λ j. bit_at c.args.mask j ≡ 1) (λ j. AgreeInPlaces c.args.places.now c.args.target.now (row_of c.args.t.now j)) j

pub loop-i-preserved : goal.loop-i-preserved
loop-i-preserved c =
    let t = c.args.t.now in let i = c.loop-i.i in
    let A = λ (j : ℕ). bit_at c.args.mask j ≡ 1 in
    let B = λ (j : ℕ). AgreeInPlaces c.args.places.now c.args.target.now (row_of t j) in
    elim c.if-has.branch [
      | then-has+then-agree_at w ↦
          collect_more A B c.loop-i.set c.if-has.set i (c.has.ensures.0 w.if-has.true) (subst (AgreeInPlaces c.args.places.now c.args.target.now) w.row.ensures.is (w.agree_at.ensures.0 w.if-agree_at.true))
          (λ j ne. ap (λ m. bit_at m j) w.set-is ∙ w.with-set.ensures.same j ne) (ap (λ m. bit_at m i) w.set-is ∙ w.with-set.ensures.member) c.loop-i.invariant
      | else-has w ↦ collect_same A B c.loop-i.set c.if-has.set i w.set-is (λ a b.
          elim w.else-has.branch [
            | else-has-via-then-has+else-agree_at w' ↦ true≢false (sym (w'.agree_at.ensures.1 (subst (AgreeInPlaces c.args.places.now c.args.target.now) (sym w'.row.ensures.is) b)) ∙ w'.if-agree_at.false)
            | else-has-via-else-has w' ↦ true≢false (sym (c.has.ensures.1 a) ∙ w'.if-has.false)
          ]) c.loop-i.invariant
    ]

pub returns : goal.returns
returns c = λ i. (
  λ h. let r = (c.loop-i.invariant i).0 h in let l = r.0 in (omega arith, r.1, r.2),
  λ h. let l = h.0 in (c.loop-i.invariant i).1 (omega arith, h.1, h.2),
)
