-- The rows of a bucket are gone through from the last to the first by the chain of its rows: those behind the place have been paired, and a row of another bucket has another key. Where nothing on the right is kept, one pair tells what all others would.
use Rattle.std.proofs.Common.{◌≡◌, ◌-◌, ◌%◌, ◌<◌, suc, List, [], ℕ, length, get_or, Contains, subst, ap, sym, refl, ◌∙◌, ⊎_elim, inl, inr, rules, arith}
use Rattle.std.proofs.lemmas.Bool.{true≢false}
use Rattle.std.proofs.lemmas.List.{nil_from_length}
use Rattle.su_reduce.specs.Sheets.{pick}
use Rattle.su_exec.specs.inside.Joins.{IsUpTo}
use Rattle.su_reduce.specs.Chains.{in_bucket, hash_of, last}
use Rattle.su_exec.specs.inside.Plans.{IsMade}
use Rattle.su_reduce.proofs.Buckets.{last_le, last_none, last_again, next_is, all_step, key_bucket}
use Rattle.su_exec.proofs.Made.{made_gives, gives_made, one_row}
use Rattle.su_exec.proofs.joins.add_matches.Goals as goal

pub loop-at-init : goal.loop-at-init
loop-at-init c =
    let plan = c.args.plan.now in
    let row = c.args.row.now in
    let rs = c.args.right.now.rows.now.rows in
    let n = length c.args.right.now.heads.now in
    let key = pick plan.left_key.items row in
    let h = hash_of key % n in
    let p = in_bucket rs plan.right_key.items n h in
    let some = c.requires.some in
    let low : h < n = omega arith in
    let b : c.bucket.result ≡ h = c.bucket.ensures ∙ ap (λ ps. hash_of (pick ps row) % n) c.deref.ensures.value in
    let e : get_or c.args.right.now.heads.now c.bucket.result 0 ≡ last p (length rs) = ap (λ h. get_or c.args.right.now.heads.now h 0) b ∙ c.requires.heads h low in
    let l = last_le p (length rs) in
    record {
      width = refl;
      kept = λ r h. h;
      only = λ r h. inl h;
      all = λ b low lt r made. absurd (true≢false (sym (key_bucket rs plan.right_key.items n b key made.keys) ∙ last_none p (length rs) b (omega arith) lt));
      low = omega arith;
      again = ap (last p) e ∙ last_again p (length rs) ∙ sym e;
    }

pub loop-at-smaller : goal.loop-at-smaller
loop-at-smaller c =
    let plan = c.args.plan.now in
    let rs = c.args.right.now.rows.now.rows in
    let n = length c.args.right.now.heads.now in
    let h = hash_of (pick plan.left_key.items c.args.row.now) % n in
    let p = in_bucket rs plan.right_key.items n h in
    let low = c.loop-at.invariant.low in
    let some = c.loop-at-test.true in
    (next_is p (c.loop-at.at - 1) c.loop-at.at (get_or c.args.right.now.next.now (c.loop-at.at - 1) 0) (omega arith) c.loop-at.invariant.again (c.requires.next h (c.loop-at.at - 1) (omega arith))).below

pub loop-at-preserved : goal.loop-at-preserved
loop-at-preserved c =
    let plan = c.args.plan.now in
    let values = c.args.codes.now in
    let row = c.args.row.now in
    let rs = c.args.right.now.rows.now.rows in
    let n = length c.args.right.now.heads.now in
    let key = pick plan.left_key.items row in
    let h = hash_of key % n in
    let p = in_bucket rs plan.right_key.items n h in
    let low = c.loop-at.invariant.low in
    let some = c.loop-at-test.true in
    let j = c.loop-at.at - 1 in
    let nx = get_or c.args.right.now.next.now j 0 in
    let rows = c.add_pair.new.out.rows.rows in
    let e : c.loop-at.at ≡ suc j = omega arith in
    let next = next_is p j c.loop-at.at nx e c.loop-at.invariant.again (c.requires.next h j (omega arith)) in
    let below = next.below in
    let Q : ℕ → Type 0 = λ b. (r : List ℕ) → IsMade values plan row (get_or rs b []) r → Contains rows r in
    record {
      width = c.in_ok-added.ensures.width ∙ c.loop-at.invariant.width;
      kept = λ r had. c.in_ok-added.ensures.kept r (c.loop-at.invariant.kept r had);
      only = λ r has. ⊎_elim (λ old. c.loop-at.invariant.only r old) (λ made. inr (made_gives values plan row c.row.result.now r rs j (omega arith) c.row.ensures.is made)) (c.in_ok-added.ensures.only r has);
      all = all_step Q p j c.loop-at.at nx (length rs) e next
          (λ b out r made. absurd (true≢false (sym (key_bucket rs plan.right_key.items n b key made.keys) ∙ out)))
          (λ b low lt r made. c.in_ok-added.ensures.kept r (c.loop-at.invariant.all b low lt r made))
          (λ r made. c.in_ok-added.ensures.had r (subst (λ other. IsMade values plan row other r) (sym c.row.ensures.is) made));
      low = omega arith;
      again = next.again;
    }

pub returns-in_err-added-clause-only : goal.returns-in_err-added-clause-only
returns-in_err-added-clause-only c = λ r has.
    let plan = c.args.plan.now in
    let low = c.loop-at.invariant.low in
    let some = c.loop-at-test.true in
    ⊎_elim (λ old. c.loop-at.invariant.only r old) (λ made. inr (made_gives c.args.codes.now plan c.args.row.now c.row.result.now r c.args.right.now.rows.now.rows (c.loop-at.at - 1) (omega arith) c.row.ensures.is made)) (c.add_pair.ensures.only r has)

pub returns-then-is_empty-clause-only : goal.returns-then-is_empty-clause-only
returns-then-is_empty-clause-only c = λ r has.
    let plan = c.args.plan.now in
    let low = c.loop-at.invariant.low in
    let some = c.loop-at-test.true in
    ⊎_elim (λ old. c.loop-at.invariant.only r old) (λ made. inr (made_gives c.args.codes.now plan c.args.row.now c.row.result.now r c.args.right.now.rows.now.rows (c.loop-at.at - 1) (omega arith) c.row.ensures.is made)) (c.add_pair.ensures.only r has)

pub returns-then-is_empty-clause-all : goal.returns-then-is_empty-clause-all
returns-then-is_empty-clause-all c = λ few r g.
    let plan = c.args.plan.now in
    let row = c.args.row.now in
    let rs = c.args.right.now.rows.now.rows in
    let none : plan.right_out.items ≡ [] = nil_from_length plan.right_out.items (search (rules, c.if-is_empty.true, c.is_empty.ensures)) in
    let made = gives_made c.args.codes.now plan row r rs g in
    subst (λ (x : List ℕ). Contains c.add_pair.new.out.rows.rows x) (one_row plan row c.row.result.now (get_or rs g.right []) none ∙ made.is) (c.in_ok-added.ensures.added c.if-added.true)

pub returns-then-is_past-clause-only : goal.returns-then-is_past-clause-only
returns-then-is_past-clause-only c = λ r has.
    let plan = c.args.plan.now in
    let low = c.loop-at.invariant.low in
    let some = c.loop-at-test.true in
    ⊎_elim (λ old. c.loop-at.invariant.only r old) (λ made. inr (made_gives c.args.codes.now plan c.args.row.now c.row.result.now r c.args.right.now.rows.now.rows (c.loop-at.at - 1) (omega arith) c.row.ensures.is made)) (c.add_pair.ensures.only r has)

pub returns-then-is_past-clause-all : goal.returns-then-is_past-clause-all
returns-then-is_past-clause-all c = λ few r g.
    let past : IsUpTo c.args.most c.len.result → ⊥ = rw c.if-is_past.true at c.is_past.ensures in
    absurd (past (subst (λ n. IsUpTo c.args.most n) (sym c.len.ensures) few))

pub returns-clause-all : goal.returns-clause-all
returns-clause-all c = λ few r g.
    let none = c.loop-at-test.false in
    c.loop-at.invariant.all g.right (omega arith) g.right_in r (gives_made c.args.codes.now c.args.plan.now c.args.row.now r c.args.right.now.rows.now.rows g)
