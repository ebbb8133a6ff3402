-- With the marked rows side by side at the front, cutting the cells behind them leaves just the marked rows.
use Rattle.std.proofs.Common.{◌≡◌, ◌*◌, ◌∙◌, List, ℕ, length, ap, sym, arith, mul-le-mul_right}
use Rattle.std.proofs.lemmas.List.{length-take-le}
use Rattle.su_reduce.specs.Left.{marked}
use Rattle.su_reduce.specs.Sheets.{cut}
use Rattle.su_reduce.proofs.ListPieces.{length-cut}
use Rattle.su_reduce.proofs.ForwardRows.{written_back}
use Rattle.su_reduce.proofs.sheets.Sheet.keep.Goals as goal

pub bring_forward-kept-requires : goal.bring_forward-kept-requires
bring_forward-kept-requires c =
    let s = c.self.inside in
    let many : length c.args.marks.now ≡ s.count = (rw (← c.self.view_is) at c.requires) ∙ length-cut s.width s.count s.cells.items in
    ap length c.as_mut_slice.ensures.value ∙ c.self.invariant ∙ ap (λ n. n * s.width) (sym many)

pub overflow_mul-kept : goal.overflow_mul-kept
overflow_mul-kept c =
    let s = c.self.inside in
    let many : length c.args.marks.now ≡ s.count = (rw (← c.self.view_is) at c.requires) ∙ length-cut s.width s.count s.cells.items in
    let long : length c.as_mut_slice.result.now ≡ length c.args.marks.now * s.width = ap length c.as_mut_slice.ensures.value ∙ c.self.invariant ∙ ap (λ n. n * s.width) (sym many) in
    let less = mul-le-mul_right {m = c.bring_forward-kept.result} {n = length c.args.marks.now} s.width c.bring_forward-kept.ensures.count in
    let t = c.as_mut_slice.type_inv in
    omega arith

pub invariant_of-self : goal.invariant_of-self
invariant_of-self c =
    let s = c.self.inside in
    let kept = c.bring_forward-kept.result in
    let new : List ℕ = c.bring_forward-kept.new.cells in
    let many : length c.args.marks.now ≡ s.count = (rw (← c.self.view_is) at c.requires) ∙ length-cut s.width s.count s.cells.items in
    let long : length new ≡ length c.args.marks.now * s.width = c.bring_forward-kept.ensures.length ∙ ap length c.as_mut_slice.ensures.value ∙ c.self.invariant ∙ ap (λ n. n * s.width) (sym many) in
    let less = mul-le-mul_right {m = kept} {n = length c.args.marks.now} s.width c.bring_forward-kept.ensures.count in
    let same = c.bring_forward-kept.ensures.length ∙ c.as_mut_slice.ensures.len in
    ap length (c.truncate.ensures.items ∙ written_back (kept * s.width) s.cells.len new s.cells.items (sym same)) ∙ length-take-le (kept * s.width) new (omega (arith, long, less))

pub returns-clause-rows : goal.returns-clause-rows
returns-clause-rows c =
    let s = c.self.inside in
    let kept = c.bring_forward-kept.result in
    let new : List ℕ = c.bring_forward-kept.new.cells in
    let many : length c.args.marks.now ≡ s.count = (rw (← c.self.view_is) at c.requires) ∙ length-cut s.width s.count s.cells.items in
    let same = c.bring_forward-kept.ensures.length ∙ c.as_mut_slice.ensures.len in
    rw (← c.self.view_is)
    (ap (cut s.width kept) (c.truncate.ensures.items ∙ written_back (kept * s.width) s.cells.len new s.cells.items (sym same)) ∙ c.bring_forward-kept.ensures.rows
    ∙ ap (λ n. marked c.args.marks.now (cut s.width n c.as_mut_slice.result.now)) many ∙ ap (λ cells. marked c.args.marks.now (cut s.width s.count cells)) c.as_mut_slice.ensures.value)
