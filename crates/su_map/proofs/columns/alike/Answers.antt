-- The set so far has the members below the next that hold one symbol at both columns; a column is like itself at every target, so there only the rows bound the set.
use Rattle.std.proofs.Common.{◌≡◌, ◌+◌, ◌^◌, length, get_or, sym, ap, ◌∙◌, ℕ, true≢false, arith}
use Rattle.std.specs.Int.{bit_at}
use Rattle.su_map.specs.Lists.{row_of}
use Rattle.su_map.specs.inside.Targets.{AlikeAt}
use Rattle.su_map.proofs.Cells.{read_holds}
use Rattle.su_map.proofs.Members.{collect_more, collect_same, full_member}
use Rattle.su_map.proofs.columns.alike.Goals as goal
use Rattle.su_map.proofs.columns.alike.Goals.{then-has+then-same, else-has, else-has-via-then-has+else-same, else-has-via-else-has}

pub returns-then-first-column : goal.returns-then-first-column
returns-then-first-column c = λ j.
    let in_both = c.both.ensures j in
    let e : c.full.result + 1 ≡ 2 ^ length c.args.to.now.rows = c.full.ensures ∙ ap (λ n. 2 ^ n) c.row_count.ensures.is in
    let in_rows = full_member c.full.result (length c.args.to.now.rows) j e in (
      λ one. let m = in_both.0 one in (in_rows.0 m.1, m.0, λ d. ap (λ c'. get_or (row_of c.args.to.now j) c' d) c.if-first-column.true),
      λ h. in_both.1 (h.1, in_rows.1 h.0),
    )

pub loop-j-preserved : goal.loop-j-preserved
loop-j-preserved c =
    let to = c.args.to.now in let column = c.args.column in let first = c.args.first in let j = c.loop-j.j in
    let A = λ (i : ℕ). bit_at c.args.set i ≡ 1 in
    let B = AlikeAt to first column in
    elim c.if-has.branch [
      | then-has+then-same w ↦
          let there = read_holds to j column w.row.result.now w.index-row-column.result w.row.ensures.is (omega arith) w.index-row-column.is in
          let here = read_holds to j first w.row-then-has.result.now w.index-row-first.result w.row-then-has.ensures.is (omega arith) w.index-row-first.is in
          collect_more A B c.loop-j.left c.if-has.left j (c.has.ensures.0 w.if-has.true) (λ d. here d ∙ sym (w.same.ensures.0 w.if-same.true) ∙ sym (there d))
          (λ i ne. ap (λ m. bit_at m i) w.left-is ∙ w.with-left.ensures.same i ne) (ap (λ m. bit_at m j) w.left-is ∙ w.with-left.ensures.member) c.loop-j.invariant
      | else-has w ↦ collect_same A B c.loop-j.left c.if-has.left j w.left-is (λ a b.
          elim w.else-has.branch [
            | else-has-via-then-has+else-same w' ↦
                let there = read_holds to j column w'.row.result.now w'.index-row-column.result w'.row.ensures.is (omega arith) w'.index-row-column.is in
                let here = read_holds to j first w'.row-then-has.result.now w'.index-row-first.result w'.row-then-has.ensures.is (omega arith) w'.index-row-first.is in
                let x = w'.index-row-column.result in
                true≢false (sym (w'.same.ensures.1 (sym (there x) ∙ sym (b x) ∙ here x)) ∙ w'.if-same.false)
            | else-has-via-else-has w' ↦ true≢false (sym (c.has.ensures.1 a) ∙ w'.if-has.false)
          ]) c.loop-j.invariant
    ]
