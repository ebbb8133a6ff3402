-- The row found under the number may be any, but what is merged agrees on the left side; so only what the dependency puts together is merged, whatever the notes tell.
use Rattle.std.proofs.Common.{ℕ, List, Contains, length, refl, subst, sym}
use Rattle.std.proofs.lemmas.List.Elements.{All-contains}
use Rattle.su_classes.specs.declared.items.Placed.{Placed}
use Rattle.su_classes.specs.inside.Firsts.{AreMembersBelow}
use Rattle.su_classes.specs.Items.{IsPlacedBelow}
use Rattle.su_classes.proofs.Listed.{left_cells}
use Rattle.su_classes.proofs.Rushed.{looked}
use Rattle.su_classes.proofs.rushing.look.Goals as goal

pub returns-clause-merging : goal.returns-clause-merging
returns-clause-merging c =
    let row : Placed = c.index-rows-position.result in
    let other : Placed = c.index-rows-earlier.result in
    looked c.args.rows.now c.args.rule.now.fd row other c.args.table.now c.bring_together.new.table (c.args.position, c.requires.position, sym c.index-rows-position.is) (c.in-Some.earlier, c.if-earlier-rows.false, sym c.index-rows-earlier.is)
    (c.if-not-lies_in.ensures.0 refl) (c.if-not-lies_in-2.ensures.0 refl) c.in_ok-bring_together.ensures.merging

pub key-number-requires : goal.key-number-requires
key-number-requires c =
    let rows = c.args.rows.now in
    let fd = c.args.rule.now.fd in
    let row : Placed = c.index-rows-position.result in
    let there : Contains rows row = (c.args.position, c.requires.position, sym c.index-rows-position.is) in
    let placed : IsPlacedBelow (length c.args.table.now) row = All-contains (IsPlacedBelow (length c.args.table.now)) rows row c.requires.cells there in
    left_cells (length c.args.work.now.marks.items) fd row (subst (λ (n : ℕ). IsPlacedBelow n row) (sym c.requires.items) placed) (c.if-not-lies_in.ensures.0 refl) c.as_slice-left.result.now
    (subst (λ (list : List ℕ). AreMembersBelow 128 fd.left list) (sym c.as_slice-left.ensures) c.requires.rule.left)
