-- The rows of a bucket are gone through from the last to the first by the chain of its rows: none at or behind the place is the row, and a row that is equal has the same hash, so that it is in the same bucket.
use Rattle.std.proofs.Common.{◌≡◌, ◌≢◌, ◌-◌, ◌<◌, suc, [], ℕ, length, get_or, ap, sym, ◌∙◌, arith}
use Rattle.std.proofs.lemmas.Bool.{true≢false}
use Rattle.std.proofs.lemmas.List.{get_or_default}
use Rattle.su_reduce.specs.Sheets.{pick}
use Rattle.su_reduce.specs.Chains.{in_bucket, last}
use Rattle.su_reduce.proofs.Buckets.{last_le, last_none, last_again, next_is, all_step, key_bucket}
use Rattle.su_reduce.proofs.distinct.is_among.Goals as goal

pub loop-at-init : goal.loop-at-init
loop-at-init c =
    let rows = c.args.rows.now.rows in
    let places = c.args.places.now in
    let n = length c.args.heads.now in
    let h = c.args.h in
    let p = in_bucket rows places n h in
    let some = c.requires.hashed.some in
    let below : h < n = omega (arith, c.requires.bucket) in
    let e : get_or c.args.heads.now h 0 ≡ last p (length rows) = c.requires.hashed.each_head h below in
    let l = last_le p (length rows) in
    record {
      low = omega arith;
      again = ap (last p) e ∙ last_again p (length rows) ∙ sym e;
      none = λ b low lt same. absurd (true≢false (sym (ap (λ h. in_bucket rows places n h b) c.requires.bucket ∙ key_bucket rows places n b (pick places c.args.row.now) (ap (pick places) (sym same))) ∙ last_none p (length rows) b (omega arith) lt));
    }

pub loop-at-smaller : goal.loop-at-smaller
loop-at-smaller c =
    let rows = c.args.rows.now.rows in
    let p = in_bucket rows c.args.places.now (length c.args.heads.now) c.args.h in
    let low = c.loop-at.invariant.low in
    let some = c.loop-at-test.true in
    (next_is p (c.loop-at.at - 1) c.loop-at.at (get_or c.args.next.now (c.loop-at.at - 1) 0) (omega arith) c.loop-at.invariant.again (c.requires.hashed.chains c.args.h (c.loop-at.at - 1) (omega arith))).below

pub loop-at-preserved : goal.loop-at-preserved
loop-at-preserved c =
    let rows = c.args.rows.now.rows in
    let places = c.args.places.now in
    let n = length c.args.heads.now in
    let p = in_bucket rows places n c.args.h in
    let low = c.loop-at.invariant.low in
    let some = c.loop-at-test.true in
    let j = c.loop-at.at - 1 in
    let nx = get_or c.args.next.now j 0 in
    let e : c.loop-at.at ≡ suc j = omega arith in
    let next = next_is p j c.loop-at.at nx e c.loop-at.invariant.again (c.requires.hashed.chains c.args.h j (omega arith)) in
    let below = next.below in
    let Q : ℕ → Type 0 = λ b. get_or rows b [] ≢ c.args.row.now in
    record {
      low = omega arith;
      again = next.again;
      none = all_step Q p j c.loop-at.at nx (length rows) e next
          (λ b out same. absurd (true≢false (sym (ap (λ h. in_bucket rows places n h b) c.requires.bucket ∙ key_bucket rows places n b (pick places c.args.row.now) (ap (pick places) (sym same))) ∙ out)))
          c.loop-at.invariant.none
          (λ same. absurd (true≢false (sym (c.same_row.ensures.1 (c.row.ensures.is ∙ same)) ∙ c.if-same_row.false)));
    }

pub returns : goal.returns
returns c = (
  λ e. absurd (true≢false (sym e)),
  λ has. absurd (c.loop-at.invariant.none has.0 (let t = c.loop-at-test.false in omega arith) has.1 (get_or_default c.args.rows.now.rows has.0 [] c.args.row.now has.1 ∙ has.2)),
)
