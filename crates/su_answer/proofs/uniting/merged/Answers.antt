-- The merged rows are the greatest of both lists, and what is left comes before them; so a row more than an answer may have shows that many different ones.
use Rattle.std.proofs.Common.{◌≡◌, [], ◌∷◌, ◌++◌, List, length, sym, ap, ◌∙◌, subst, arith}
use Rattle.std.specs.Prelude.{reverse}
use Rattle.std.specs.List.Sorted.{IsStrictlySortedBy}
use Rattle.std.proofs.lemmas.List.{length-append, length-reverse, reverse-append}
use Rattle.su_base.specs.declared.values.Value.{Value}
use Rattle.su_base.specs.Value.{compare_lists}
use Rattle.su_answer.proofs.MergedLists.{AreMerged, none_taken, left_sorted, right_sorted, one_taken, one_too_many, all_taken}
use Rattle.su_answer.proofs.uniting.merged.Goals as goal

pub loop-row-init : goal.loop-row-init
loop-row-init c =
    let none : c.in_ok-merged.merged.items ≡ [] = c.in_ok-merged.ensures.items in (
      subst (λ (xs : List (List Value)). AreMerged c.args.rows c.args.more c.args.rows c.args.more (reverse xs)) (sym none) (none_taken c.args.rows c.args.more c.requires.rows c.requires.more),
      (let e = ap (λ (xs : List (List Value)). length xs) none in omega (arith, e)),
    )

pub take_greatest-requires-clause-left : goal.take_greatest-requires-clause-left
take_greatest-requires-clause-left c = left_sorted c.args.rows c.args.more c.loop-row.left c.loop-row.right (reverse c.loop-row.merged.items) c.loop-row.invariant.0

pub take_greatest-requires-clause-right : goal.take_greatest-requires-clause-right
take_greatest-requires-clause-right c = right_sorted c.args.rows c.args.more c.loop-row.left c.loop-row.right (reverse c.loop-row.merged.items) c.loop-row.invariant.0

pub returns-then-len-eq-MOST-clause-limit : goal.returns-then-len-eq-MOST-clause-limit
returns-then-len-eq-MOST-clause-limit c = λ _.
    let full = c.if-len-eq-MOST.true in
    let len : c.len-in-Some.result ≡ length c.loop-row.merged.items = search (c.len-in-Some.ensures) in
    let r = length-reverse c.loop-row.merged.items in
    one_too_many c.args.rows c.args.more c.loop-row.left c.loop-row.right (reverse c.loop-row.merged.items) c.loop-row.invariant.0 c.take_greatest.new.left c.take_greatest.new.right c.in-Some.row c.in-Some.ensures (omega (arith, full, len, r))

pub loop-row-preserved : goal.loop-row-preserved
loop-row-preserved c =
    let more = c.if-len-eq-MOST.false in
    let few = c.loop-row.invariant.1 in
    let len : c.len-in-Some.result ≡ length c.loop-row.merged.items = search (c.len-in-Some.ensures) in
    let is : c.push.new.self.items ≡ c.loop-row.merged.items ++ c.in-Some.row ∷ [] = c.in-Ok.ensures.items in
    let back : c.in-Some.row ∷ reverse c.loop-row.merged.items ≡ reverse c.push.new.self.items = sym (ap (λ (xs : List (List Value)). reverse xs) is ∙ reverse-append c.loop-row.merged.items (c.in-Some.row ∷ [])) in (
      subst (λ (xs : List (List Value)). AreMerged c.args.rows c.args.more c.take_greatest.new.left c.take_greatest.new.right xs) back
          (one_taken c.args.rows c.args.more c.loop-row.left c.loop-row.right (reverse c.loop-row.merged.items) c.loop-row.invariant.0 c.take_greatest.new.left c.take_greatest.new.right c.in-Some.row c.in-Some.ensures),
      (let e = ap (λ (xs : List (List Value)). length xs) is in
          let l = length-append c.loop-row.merged.items (c.in-Some.row ∷ []) in
          omega (arith, e, l, more, few, len)),
    )

pub returns-clause-members : goal.returns-clause-members
returns-clause-members c = λ h.
    let is : c.from_vec.result ≡ reverse c.loop-row.merged.items = c.from_vec.ensures ∙ c.reverse.ensures.items in
    let all = all_taken c.args.rows c.args.more c.loop-row.left c.loop-row.right (reverse c.loop-row.merged.items) c.loop-row.invariant.0 c.in_default.ensures.0 c.in_default.ensures.1 in
    rw is (all.0 h)

pub returns-clause-ascending : goal.returns-clause-ascending
returns-clause-ascending c =
    let is : c.from_vec.result ≡ reverse c.loop-row.merged.items = c.from_vec.ensures ∙ c.reverse.ensures.items in
    let all = all_taken c.args.rows c.args.more c.loop-row.left c.loop-row.right (reverse c.loop-row.merged.items) c.loop-row.invariant.0 c.in_default.ensures.0 c.in_default.ensures.1 in
    subst (λ (xs : List (List Value)). IsStrictlySortedBy compare_lists xs) (sym is) all.1
