-- The rows before are sent already: the last one is too where each of its cells goes to a symbol's image or is the symbol's first.
use Rattle.std.proofs.Common.{◌<◌, ◌≤◌, [], None, get_or, length, refl, sym, ap, subst, ◌∙◌, arith}
use Rattle.std.proofs.lemmas.List.{get_or_default}
use Rattle.su_check.specs.Certificate.{lines_of}
use Rattle.su_check.specs.inside.Cells.{cell_at}
use Rattle.su_check.specs.SentRows.{numbered_row, AreSent}
use Rattle.su_check.specs.inside.Boards.{SendsRow, Covers, Keeps}
use Rattle.su_check.proofs.ImagePlaces.{column_keeps, column_done, keeps_more, covers_more, all_sent}
use Rattle.su_check.proofs.fitting.last_goes.Goals as goal

pub returns-then-not-cell_goes-clause-keeps : goal.returns-then-not-cell_goes-clause-keeps
returns-then-not-cell_goes-clause-keeps c =
    let t = lines_of c.args.term.now in let b = c.args.board.now in let p = c.args.sent.now in let s = c.args.row in let i = c.loop-column.column in
    let from = c.row_at-from.ensures ∙ ap (λ r. get_or r s []) c.as_slice.ensures in
    let x = c.at-x.ensures ∙ ap (λ r. cell_at r i) from in
    let low : s < length c.as_slice-3.result.now = let e = c.requires.ready.2.board.one_each in let f = ap length c.as_slice-3.ensures in let l = c.requires.row in omega (arith, e, f) in
    let numbers = c.as_slice-numbers.ensures ∙ c.index-as_slice-row.is ∙ get_or_default c.as_slice-3.result.now s c.index-as_slice-row.result [] low ∙ ap (λ ns. get_or ns s []) c.as_slice-3.ensures in
    let wide : i < length (numbered_row t s) = subst (λ r. i < length r) from c.loop-column-test.true in
    keeps_more t b p c.args.places.now c.loop-column.places c.cell_goes.new.places c.loop-column.invariant.keeps
    (column_keeps t b c.requires.ready.0 p c.args.places.now c.loop-column.places c.cell_goes.new.places s i _ _ c.requires.ready.2 c.requires.row wide x (ap (λ ns. get_or ns i None) numbers) c.loop-column.invariant.keeps c.cell_goes.ensures.len c.cell_goes.ensures.keeps)

pub loop-column-preserved : goal.loop-column-preserved
loop-column-preserved c =
    let t = lines_of c.args.term.now in let b = c.args.board.now in let p = c.args.sent.now in let s = c.args.row in let i = c.loop-column.column in
    let from = c.row_at-from.ensures ∙ ap (λ r. get_or r s []) c.as_slice.ensures in
    let x = c.at-x.ensures ∙ ap (λ r. cell_at r i) from in
    let low : s < length c.as_slice-3.result.now = let e = c.requires.ready.2.board.one_each in let f = ap length c.as_slice-3.ensures in let l = c.requires.row in omega (arith, e, f) in
    let numbers = c.as_slice-numbers.ensures ∙ c.index-as_slice-row.is ∙ get_or_default c.as_slice-3.result.now s c.index-as_slice-row.result [] low ∙ ap (λ ns. get_or ns s []) c.as_slice-3.ensures in
    let wide : i < length (numbered_row t s) = subst (λ r. i < length r) from c.loop-column-test.true in
    let y = c.at-y.ensures ∙ ap (λ r. cell_at r i) (c.row_at-to.ensures ∙ ap (λ r. get_or r c.args.target []) c.as_slice-2.ensures) in
    let q = c.requires.ready.0 in let start = c.args.places.now in
    let here : Keeps t b p c.loop-column.places c.cell_goes.new.places =
    column_keeps t b q p start c.loop-column.places c.cell_goes.new.places s i _ _ c.requires.ready.2 c.requires.row wide x (ap (λ ns. get_or ns i None) numbers) c.loop-column.invariant.keeps c.cell_goes.ensures.len c.cell_goes.ensures.keeps in
    record {
      done = column_done t b q p start c.loop-column.places c.cell_goes.new.places s c.args.target i _ _ _ c.requires.ready.2 c.requires.row wide x y (ap (λ ns. get_or ns i None) numbers) here c.loop-column.invariant.done (c.cell_goes.ensures.yes c.if-not-cell_goes.false);
      keeps = keeps_more t b p start c.loop-column.places c.cell_goes.new.places c.loop-column.invariant.keeps here;
    }

pub returns-clause-tells : goal.returns-clause-tells
returns-clause-tells c =
    let t = lines_of c.args.term.now in let b = c.args.board.now in let s = c.args.row in let j = c.args.target in let q = c.requires.ready.0 in
    let from = c.row_at-from.ensures ∙ ap (λ r. get_or r s []) c.as_slice.ensures in
    let end : length (numbered_row t s) ≤ c.loop-column.column = subst (λ r. length r ≤ c.loop-column.column) from c.loop-column-test.false in
    let keeps = subst (λ p. Keeps t b p c.args.places.now c.loop-column.places) c.requires.ready.1 c.loop-column.invariant.keeps in
    let here = subst (λ p. SendsRow t b p c.loop-column.places s j) c.requires.ready.1 (λ k h. c.loop-column.invariant.done k (omega arith)) in
    (λ done. subst (AreSent t) (sym c.requires.ready.1) (all_sent t b q s j c.args.places.now c.loop-column.places c.requires.ready.2 c.requires.row c.requires.target keeps here), λ sent. refl)

pub returns-clause-covers : goal.returns-clause-covers
returns-clause-covers c = λ done.
    let t = lines_of c.args.term.now in let b = c.args.board.now in let s = c.args.row in let j = c.args.target in let q = c.requires.ready.0 in
    let from = c.row_at-from.ensures ∙ ap (λ r. get_or r s []) c.as_slice.ensures in
    let end : length (numbered_row t s) ≤ c.loop-column.column = subst (λ r. length r ≤ c.loop-column.column) from c.loop-column-test.false in
    let keeps = subst (λ p. Keeps t b p c.args.places.now c.loop-column.places) c.requires.ready.1 c.loop-column.invariant.keeps in
    let here = subst (λ p. SendsRow t b p c.loop-column.places s j) c.requires.ready.1 (λ k h. c.loop-column.invariant.done k (omega arith)) in
    subst (λ p. Covers t b p c.loop-column.places) (sym c.requires.ready.1) (covers_more t b q s j c.args.places.now c.loop-column.places c.requires.ready.2 keeps here)
