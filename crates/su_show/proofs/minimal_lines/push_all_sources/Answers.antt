-- The lines so far are those of the kept rows so far; the next row adds its line exactly if it is kept, and the columns read at its place are its essential ones.
use Rattle.std.proofs.Common.{◌↔◌, ◌<◌, ap, sym, ◌∙◌, subst, length, arith, IsTrue}
use Rattle.std.specs.Ordering.{nat_cmp}
use Rattle.std.specs.FinSet.{FinSet, contains, empty}
use Rattle.std.proofs.lemmas.Bool.{true≢false}
use Rattle.std.proofs.lemmas.Option.{get_or_from_slice_get}
use Rattle.su_tableau.specs.Essential.{IsEssential, AreEssential}
use Rattle.su_show.specs.MinimalLines.{IsSourcesLine}
use Rattle.su_show.proofs.Lines.{adds_in, adds_out}
use Rattle.su_show.proofs.minimal_lines.push_all_sources.Goals as goal
use Rattle.su_show.proofs.minimal_lines.push_all_sources.Goals.{then-has+in_ok-push_sources, else-has}

pub push_sources-requires : goal.push_sources-requires
push_sources-requires c = λ column.
    let t = c.args.minimal.now.tableau in
    let m = c.args.minimal.now.mask in
    let row = c.loop-row.row in
    let are : AreEssential t m c.in_ok-columns.columns = rw (c.tableau.ensures, c.mask-kept.ensures.is) at c.in_ok-columns.ensures.columns in
    let test = c.loop-row-test.true in
    let end = rw c.tableau-2.ensures at c.row_count-rows.ensures.is in
    let low : row < length t.rows = omega (arith, test, end) in
    subst (λ (own : FinSet nat_cmp). IsTrue (contains own column) ↔ IsEssential t m row column) (get_or_from_slice_get c.in_ok-columns.columns row c.get.result.now empty c.get.ensures)
    (are row column low (rw c.mask-kept.ensures.is at c.has.ensures.0 c.if-has.true))

pub loop-row-preserved : goal.loop-row-preserved
loop-row-preserved c =
    let P = IsSourcesLine c.args.schema.now c.args.minimal.now in
    let m = c.args.minimal.now.mask in
    let old = c.args.out.now.items in
    elim c.if-has.branch [
      | then-has+in_ok-push_sources w ↦ rw w.out-is (adds_in P m c.loop-row.row old c.loop-row.out.items w.push_sources.new.out.items c.loop-row.invariant (rw c.mask-kept.ensures.is at c.has.ensures.0 w.if-has.true) w.in_ok-push_sources.ensures)
      | else-has w ↦ adds_out P m c.loop-row.row old c.loop-row.out.items c.if-has.out.items c.loop-row.invariant (λ one. true≢false (sym (c.has.ensures.1 (rw c.mask-kept.ensures.is one)) ∙ w.if-has.false)) (ap (λ v. v.items) w.out-is)
    ]
