-- The entries of the targets so far are cut down to what agrees at the column and the later ones are as they were; where no column is shared nothing is to be cut.
use Rattle.std.proofs.Common.{◌≡◌, ◌+◌, ◌∙◌, ℕ, get_or, sym, ap, subst, true≢false, arith, get_or-set_other, get_or-set_same, below_more}
use Rattle.std.specs.Int.{bit_at}
use Rattle.su_map.specs.inside.Targets.{IsToldAt}
use Rattle.su_map.proofs.AgreementTable.{none_told}
use Rattle.su_map.proofs.tables.agree_at.Goals as goal
use Rattle.su_map.proofs.tables.agree_at.Goals.{then-has, else-has}

pub returns-in-None-clause-told : goal.returns-in-None-clause-told
returns-in-None-clause-told c = λ p l one. none_told c.args.to.now c.args.shared c.args.column p (get_or c.args.agree.now (c.args.start + p) 0) c.in-None.is

pub agreeing_at-told-requires-clause-within : goal.agreeing_at-told-requires-clause-within
agreeing_at-told-requires-clause-within c = λ j h.
    c.requires.within c.loop-p.p j (omega arith) (c.has.ensures.0 c.if-has.true) (ap (λ v. bit_at v j) (sym (c.loop-p.invariant.later c.loop-p.p (omega arith))) ∙ h)

pub loop-p-preserved : goal.loop-p-preserved
loop-p-preserved c =
    let to = c.args.to.now in let start = c.args.start in let n = c.loop-p.p in let old = c.args.agree.now in
    let shared = c.args.shared in let column = c.args.column in
    let P = λ (p : ℕ). bit_at c.args.targets p ≡ 1 → IsToldAt to shared column p (get_or old (start + p) 0) (get_or c.if-has.agree (start + p) 0) in
    elim c.if-has.branch [
      | then-has w ↦
          let v = w.agreeing_at-told.result in
          record {
            before = λ x l. ap (λ a. get_or a x 0) w.agree-is ∙ get_or-set_other c.loop-p.agree (start + n) x v 0 (omega arith) ∙ c.loop-p.invariant.before x l;
            later = λ p l. ap (λ a. get_or a (start + p) 0) w.agree-is ∙ get_or-set_other c.loop-p.agree (start + n) (start + p) v 0 (omega arith) ∙ c.loop-p.invariant.later p (omega arith);
            told = below_more P n
                (λ p l one. subst (IsToldAt to shared column p (get_or old (start + p) 0)) (sym (ap (λ a. get_or a (start + p) 0) w.agree-is ∙ get_or-set_other c.loop-p.agree (start + n) (start + p) v 0 (omega arith))) (c.loop-p.invariant.told p l one))
                (λ one. subst (IsToldAt to shared column n (get_or old (start + n) 0)) (sym (ap (λ a. get_or a (start + n) 0) w.agree-is ∙ get_or-set_same c.loop-p.agree (start + n) v 0 (omega arith)))
                (subst (λ o. IsToldAt to shared column n o v) (c.loop-p.invariant.later n (omega arith)) w.agreeing_at-told.ensures));
          }
      | else-has w ↦ record {
        before = λ x l. ap (λ a. get_or a x 0) w.agree-is ∙ c.loop-p.invariant.before x l;
        later = λ p l. ap (λ a. get_or a (start + p) 0) w.agree-is ∙ c.loop-p.invariant.later p (omega arith);
        told = below_more P n
            (λ p l one. subst (IsToldAt to shared column p (get_or old (start + p) 0)) (sym (ap (λ a. get_or a (start + p) 0) w.agree-is)) (c.loop-p.invariant.told p l one))
            (λ one. absurd (true≢false (sym (c.has.ensures.1 one) ∙ w.if-has.false)));
      }
    ]
