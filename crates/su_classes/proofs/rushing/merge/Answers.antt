-- The two rows are to have the same labels at these attributes, so that each pair of items joined so far is forced to be together.
use Rattle.std.proofs.Common.{◌≡◌, ℕ, sym, ap, ◌∙◌}
use Rattle.std.specs.Prelude.{All}
use Rattle.su_tableau.specs.declared.symbols.Sym.{Sym}
use Rattle.su_classes.specs.Items.{item_of}
use Rattle.su_classes.proofs.Rings.{same_then}
use Rattle.su_classes.proofs.Rushed.{merged_more}
use Rattle.su_classes.proofs.rushing.merge.Goals as goal
use Rattle.su_classes.proofs.rushing.merge.Goals.{then-join+in_ok-unite, else-join}

pub loop-a-preserved : goal.loop-a-preserved
loop-a-preserved c =
    let row = c.args.row.now in
    let other = c.args.other.now in
    let P : (ℕ → Sym) → Type 0 = λ label. All (λ a. label (item_of row a) ≡ label (item_of other a)) c.args.attributes.now in
    let merging =
    merged_more P c.args.table.now c.loop-a.table c.join.new.table c.item_at-x.result c.item_at-y.result
    (λ label p. ap label c.item_at-x.ensures ∙ p c.loop-a.a-index 0 c.loop-a-test.true ∙ ap label (sym c.item_at-y.ensures)) c.loop-a.invariant.merging c.join.ensures.joining in
    elim c.if-join.branch [
      | then-join+in_ok-unite w ↦ rw w.work-is (record { merging = merging; same = same_then c.args.work.now c.loop-a.work w.unite.new.self c.loop-a.invariant.same w.in_ok-unite.ensures })
      | else-join w ↦ rw w.work-is (record { merging = merging; same = c.loop-a.invariant.same })
    ]
