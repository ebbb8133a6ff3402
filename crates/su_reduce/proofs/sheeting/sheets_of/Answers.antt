-- Each sheet so far codes its edge by the codes of now, for codes that come later change none before; at the end all sheets share one list of values that differ.
use Rattle.std.proofs.Common.{◌≡◌, ◌∙◌, List, ℕ, [], length, subst, arith}
use Rattle.su_base.specs.declared.values.Value.{Value}
use Rattle.su_base.proofs.Items.{get_or-push_each, length-push}
use Rattle.su_reduce.specs.declared.edges.Edge.{Edge}
use Rattle.su_reduce.specs.Left.{edge_at, candidates_at, cells_at}
use Rattle.su_reduce.specs.Sheets.{Rows}
use Rattle.su_reduce.specs.inside.Coded.{IsSheetOf, sheet_at}
use Rattle.su_reduce.proofs.Candidates.{edge_is}
use Rattle.su_reduce.proofs.CodeRows.{rows_up}
use Rattle.su_reduce.proofs.sheeting.sheets_of.Goals as goal

pub loop-edge-preserved : goal.loop-edge-preserved
loop-edge-preserved c =
    let edges = c.args.edges.now in
    let olds : List Value = c.loop-edge.codes in
    let news : List Value = c.sheet_of.new.codes in
    let n = c.loop-edge.edge-index in
    let inv = c.loop-edge.invariant in
    let new : Rows = c.in_ok-sheet.sheet in
    let olds_are : List Rows = c.loop-edge.sheets.items in
    let is = edge_is edges n c.edge-item.result c.loop-edge-test.true c.edge-item.is in
    rw c.in_ok-push.ensures.items (record {
      long = length-push olds_are new n inv.long;
      each = get_or-push_each (λ (i : ℕ) (s : Rows). IsSheetOf news (edge_at edges i) s) (record { width = 0; rows = [] }) olds_are new n inv.long
          (λ i l. rows_up olds news c.in_ok-sheet.ensures.codes (candidates_at edges i) (length (cells_at edges i)) (length (candidates_at edges i)) (sheet_at olds_are i) (inv.each i l))
          (subst (λ (e : Edge). IsSheetOf news e new) is c.in_ok-sheet.ensures.sheet);
    })

pub returns : goal.returns
returns c =
    let done = c.loop-edge-test.false in
    let end = c.loop-edge.auto.edge-index-end in
    let same : c.loop-edge.edge-index ≡ length c.args.edges.now = omega (arith, done, end) in
    record {
      values = c.loop-edge.codes;
      apart = c.keeps_its_rules.ensures;
      same_length = c.loop-edge.invariant.long ∙ same;
      each = λ i l. c.loop-edge.invariant.each i (omega (arith, l, same));
    }
