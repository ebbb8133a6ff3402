-- A kept row to which this one can go is in the set so far: it is among the targets of the row alone, and it has each image that the rows already sent force.
use Rattle.std.proofs.Common.{◌≡◌, ◌<◌, ℕ, All, [], length, get_or, sym, ap, subst, ◌∙◌}
use Rattle.std.specs.Int.{bit_at}
use Rattle.std.proofs.lemmas.List.Elements.{All-contains}
use Rattle.su_check.specs.Certificate.{lines_of}
use Rattle.su_check.specs.inside.Cells.{cell_at}
use Rattle.su_check.specs.SentRows.{numbered_row}
use Rattle.su_check.specs.inside.Guides.{HasTargets}
use Rattle.su_check.proofs.PossibleTargets.{image_told, sent_alone}
use Rattle.su_check.proofs.guides.candidates.Goals as goal
use Rattle.su_check.proofs.guides.candidates.Goals.{in-Some, in_default}

pub loop-at_column-init : goal.loop-at_column-init
loop-at_column-init c = λ j kept sent.
    let t = lines_of c.args.term.now in
    subst (λ a. HasTargets t [] c.args.row (get_or a c.args.row 0)) (sym c.as_slice-3.ensures) (c.requires.guide.alone c.args.row c.requires.row) j kept (sent_alone t c.args.sent.now c.args.row j sent)

pub loop-at_column-preserved : goal.loop-at_column-preserved
loop-at_column-preserved c = λ j kept sent.
    let t = lines_of c.args.term.now in let s = c.args.row in let i = get_or c.as_slice-at_column-items.result.now c.loop-at_column.at_column-index 0 in
    let from = c.row_at-cells.ensures ∙ ap (λ r. get_or r s []) c.as_slice.ensures in
    let wide : i < length (numbered_row t s) = subst (λ l. All (λ a. (j : ℕ) → j < length t.rows → a < length (numbered_row t j)) l) (sym c.as_slice-at_column-items.ensures) c.requires.guide.telling c.loop-at_column.at_column-index 0 c.loop-at_column-test.true s c.requires.row in
    let low = All-contains (λ k. k < length c.args.term.now.rows) c.args.term.now.kept j c.requires.ready.kept kept in
    elim c.match-numbers-column.branch [
      | in-Some w ↦
          let x = w.at.ensures ∙ ap (λ r. cell_at r i) from in
          subst (λ a. bit_at a j ≡ 1) (sym w.set-is) (w.both-set.ensures j (c.loop-at_column.invariant j kept sent) (w.with_image.ensures j low (λ y m. image_told t c.args.sent.now s j i _ w.at.result.now y wide x m sent)))
      | in_default w ↦ subst (λ a. bit_at a j ≡ 1) (sym w.set-is) (c.loop-at_column.invariant j kept sent)
    ]
