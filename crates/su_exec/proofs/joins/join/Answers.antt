-- The rows so far are those that the rows so far on the left make with all on the right. Each bucket's chain begins at its last row, so that a row meets all with its key.
use Rattle.std.proofs.Common.{◌≡◌, ◌++◌, ◌<◌, ◌≤◌, List, [], ℕ, length, get_or, take, drop, subst, ap, sym, ◌∙◌, ⊎_elim, arith}
use Rattle.std.proofs.lemmas.Bool.{cases_lt}
use Rattle.std.proofs.lemmas.List.{append-nil, drop_all, take_all}
use Rattle.su_exec.specs.inside.Joins.{Joined, Gives, IsUpTo}
use Rattle.su_exec.specs.inside.Plans.{columns_of, passes_of}
use Rattle.su_exec.proofs.Made.{gives_joined, joined_gives}
use Rattle.su_exec.proofs.joins.join.Goals as goal

pub loop-i-preserved : goal.loop-i-preserved
loop-i-preserved c =
    let ls = c.args.left.now.rows in
    let rs = c.args.right.now.rows in
    let columns = columns_of c.args.plan.now in
    let t = passes_of c.args.codes.now c.args.plan.now in
    record {
      width = c.in_ok-add_matches.ensures.width ∙ c.loop-i.invariant.width;
      only = λ r has. ⊎_elim (λ old. c.loop-i.invariant.only r old) (λ g. gives_joined ls rs columns t r c.row.result.now c.loop-i.i (let t = c.loop-i-test.true in let e = c.len-i-end.ensures in omega arith) c.row.ensures.is g) (c.in_ok-add_matches.ensures.only r has);
      all = λ a r lt g.
          ⊎_elim
          (λ (l : a < c.loop-i.i). c.in_ok-add_matches.ensures.kept r (c.loop-i.invariant.all a r l g))
          (λ (l : c.loop-i.i ≤ a).
          let same : a ≡ c.loop-i.i = omega arith in
          c.in_ok-add_matches.ensures.all (subst (IsUpTo c.args.most) c.len-in-loop-i.ensures (rw c.if-is_past.false at c.is_past.ensures)) r (subst (λ row. Gives row rs columns t r) (ap (λ a. get_or ls a []) same ∙ sym c.row.ensures.is) g))
          (cases_lt a c.loop-i.i);
    }

pub returns-clause-join : goal.returns-clause-join
returns-clause-join c =
    let ls = c.args.left.now.rows in
    let rs = c.args.right.now.rows in
    let columns = columns_of c.args.plan.now in
    let t = passes_of c.args.codes.now c.args.plan.now in
    let end = c.loop-i-test.false in
    let len = c.len-i-end.ensures in
    rw c.into_rows-2.ensures.rows (record {
      only = c.loop-i.invariant.only;
      all = λ few r (j : Joined ls rs columns t r). let low = j.left_in in c.loop-i.invariant.all j.left r (omega arith) (joined_gives ls rs columns t r j);
    })

pub returns-then-is_past-clause-join : goal.returns-then-is_past-clause-join
returns-then-is_past-clause-join c =
    let ls = c.args.left.now.rows in
    let rs = c.args.right.now.rows in
    let columns = columns_of c.args.plan.now in
    let t = passes_of c.args.codes.now c.args.plan.now in
    let past : IsUpTo c.args.most c.len-in-loop-i.result → ⊥ = rw c.if-is_past.true at c.is_past.ensures in
    rw c.into_rows.ensures.rows (record {
      only = λ r has. ⊎_elim (λ old. c.loop-i.invariant.only r old) (λ g. gives_joined ls rs columns t r c.row.result.now c.loop-i.i (let t = c.loop-i-test.true in let e = c.len-i-end.ensures in omega arith) c.row.ensures.is g) (c.in_ok-add_matches.ensures.only r has);
      all = λ few. absurd (past (subst (λ n. IsUpTo c.args.most n) (sym c.len-in-loop-i.ensures) few));
    })

-- what was written over the whole of a list is all of it
written : (new old : List ℕ) (n : ℕ) → n ≡ length old → length new ≡ length old → take n (new ++ drop (length new) old) ≡ new
written new old n is same = rw (drop_all (length new) old (omega (arith, same)), append-nil new) (take_all n new (omega (arith, is, same)))

pub add_matches-requires-clause-next : goal.add_matches-requires-clause-next
add_matches-requires-clause-next c h j lt is =
    let heads_is : c.deref-2.result.now ≡ c.fill.new.heads = c.deref-2.ensures.value ∙ written c.fill.new.heads c.in_ok-heads.heads.items c.in_ok-heads.heads.len c.in_ok-heads.heads.ok.0 (c.fill.ensures.lengths.0 ∙ ap length c.deref_mut.ensures.value) in
    let next_is : c.deref-3.result.now ≡ c.fill.new.next = c.deref-3.ensures.value ∙ written c.fill.new.next c.in_ok-next.next.items c.in_ok-next.next.len c.in_ok-next.next.ok.0 (c.fill.ensures.lengths.1 ∙ ap length c.deref_mut-2.ensures.value) in
    let filled = rw c.deref.ensures.value at c.fill.ensures.next in
    rw (heads_is, next_is) (filled h j lt (rw heads_is at is))
