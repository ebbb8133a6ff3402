-- The rows so far are the codes of the candidates so far by the codes of now, since later codes leave what the earlier ones read as.
use Rattle.std.proofs.Common.{◌≡◌, ◌∙◌, List, ℕ, length, refl, ap, subst, arith}
use Rattle.su_base.specs.declared.values.Value.{Value}
use Rattle.su_reduce.specs.inside.Coded.{AreRowsOf}
use Rattle.su_reduce.specs.inside.Marks.{row_at}
use Rattle.su_reduce.proofs.CodeExtensions.{extends_self, extends_then}
use Rattle.su_reduce.proofs.Candidates.{row_is}
use Rattle.su_reduce.proofs.CodeRows.{rows_more}
use Rattle.su_reduce.proofs.sheeting.sheet_of.Goals as goal

pub loop-row-init : goal.loop-row-init
loop-row-init c = rw c.new-sheet.ensures (record {
  codes = extends_self c.args.codes.now;
  rows = record { same_width = c.len.ensures; same_length = refl; each = λ p l w. absurd (omega (arith, l)) };
})

pub loop-row-preserved : goal.loop-row-preserved
loop-row-preserved c =
    let edge = c.args.edge.now in
    let olds : List Value = c.loop-row.codes in
    let news : List Value = c.push_codes.new.codes in
    let n = c.loop-row.row-index in
    let inv = c.loop-row.invariant in
    let is : c.as_slice.result.now ≡ row_at edge.candidates n = c.as_slice.ensures ∙ row_is c.as_slice-row-items.result.now n c.row-item.result c.loop-row-test.true c.row-item.is ∙ ap (λ (rows : List (List Value)). row_at rows n) c.as_slice-row-items.ensures in
    record {
      codes = extends_then c.args.codes.now olds news inv.codes c.in_ok-push_codes.ensures.codes;
      rows = rows_more olds news c.in_ok-push_codes.ensures.codes edge.candidates (length edge.cells) n c.loop-row.sheet c.push_codes.new.sheet c.as_slice.result.now is inv.rows c.in_ok-push_codes.ensures.pushed;
    }

pub returns-clause-sheet : goal.returns-clause-sheet
returns-clause-sheet c =
    let edge = c.args.edge.now in
    let done = c.loop-row-test.false in
    let end = c.loop-row.auto.row-index-end in
    let items : length c.as_slice-row-items.result.now ≡ length edge.candidates = ap (λ (rows : List (List Value)). length rows) c.as_slice-row-items.ensures in
    let same : c.loop-row.row-index ≡ length edge.candidates = omega (arith, done, end, items) in
    subst (λ (n : ℕ). AreRowsOf c.loop-row.codes edge.candidates (length edge.cells) n c.loop-row.sheet) same c.loop-row.invariant.rows
