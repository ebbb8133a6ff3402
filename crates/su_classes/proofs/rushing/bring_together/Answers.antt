-- Rows whose left sides have the same labels are merged at the right side, which is what the dependency asks of the two; where they differ there is nothing to do.
use Rattle.std.proofs.Common.{ℕ, List, length, refl, subst, sym}
use Rattle.su_classes.specs.inside.Firsts.{AreMembersBelow}
use Rattle.su_classes.specs.Items.{IsPlacedBelow}
use Rattle.su_classes.proofs.Listed.{left_cells, right_cells}
use Rattle.su_classes.proofs.Rushed.{brought, brought_none}
use Rattle.su_classes.proofs.rushing.bring_together.Goals as goal

pub agree-requires-clause-left : goal.agree-requires-clause-left
agree-requires-clause-left c =
    left_cells (length c.args.table.now) c.args.rule.now.fd c.args.row.now c.requires.row c.requires.in_row c.as_slice-left.result.now
    (subst (λ (list : List ℕ). AreMembersBelow 128 c.args.rule.now.fd.left list) (sym c.as_slice-left.ensures) c.requires.rule.left)

pub agree-requires-clause-right : goal.agree-requires-clause-right
agree-requires-clause-right c =
    left_cells (length c.args.table.now) c.args.rule.now.fd c.args.other.now c.requires.other c.requires.in_other c.as_slice-left.result.now
    (subst (λ (list : List ℕ). AreMembersBelow 128 c.args.rule.now.fd.left list) (sym c.as_slice-left.ensures) c.requires.rule.left)

pub merge-requires-clause-left : goal.merge-requires-clause-left
merge-requires-clause-left c =
    let n = length c.agree.new.table in
    right_cells n c.args.rule.now.fd c.args.row.now (subst (λ (k : ℕ). IsPlacedBelow k c.args.row.now) (sym c.agree.ensures.shortened.same_length) c.requires.row) c.requires.in_row c.as_slice-right.result.now
    (subst (λ (list : List ℕ). AreMembersBelow 128 c.args.rule.now.fd.right list) (sym c.as_slice-right.ensures) c.requires.rule.right)

pub merge-requires-clause-right : goal.merge-requires-clause-right
merge-requires-clause-right c =
    let n = length c.agree.new.table in
    right_cells n c.args.rule.now.fd c.args.other.now (subst (λ (k : ℕ). IsPlacedBelow k c.args.other.now) (sym c.agree.ensures.shortened.same_length) c.requires.other) c.requires.in_other c.as_slice-right.result.now
    (subst (λ (list : List ℕ). AreMembersBelow 128 c.args.rule.now.fd.right list) (sym c.as_slice-right.ensures) c.requires.rule.right)

pub returns-in_ok-merge-clause-merging : goal.returns-in_ok-merge-clause-merging
returns-in_ok-merge-clause-merging c =
    let fd = c.args.rule.now.fd in
    brought (length c.args.table.now) fd c.as_slice-left.result.now c.as_slice-right.result.now c.args.row.now c.args.other.now c.requires.row c.requires.in_row
    (subst (λ (list : List ℕ). AreMembersBelow 128 fd.left list) (sym c.as_slice-left.ensures) c.requires.rule.left)
    (subst (λ (list : List ℕ). AreMembersBelow 128 fd.right list) (sym c.as_slice-right.ensures) c.requires.rule.right) c.args.table.now c.agree.new.table c.merge.new.table c.requires.ordered c.agree.ensures.shortened
    (c.if-agree.ensures.together refl) c.in_ok-merge.ensures.merging

pub returns-else-agree-clause-merging : goal.returns-else-agree-clause-merging
returns-else-agree-clause-merging c =
    let fd = c.args.rule.now.fd in
    brought_none (length c.args.table.now) fd c.as_slice-left.result.now c.as_slice-right.result.now c.args.row.now c.args.other.now c.requires.row c.requires.in_row
    (subst (λ (list : List ℕ). AreMembersBelow 128 fd.left list) (sym c.as_slice-left.ensures) c.requires.rule.left)
    (subst (λ (list : List ℕ). AreMembersBelow 128 fd.right list) (sym c.as_slice-right.ensures) c.requires.rule.right) c.args.table.now c.agree.new.table c.requires.ordered c.agree.ensures.shortened
