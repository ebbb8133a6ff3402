-- Each row and its first one agree on the left side, so joining their right sides is forced; flattening the table afterwards keeps its classes.
use Rattle.std.proofs.Common.{ℕ, List, sym, subst}
use Rattle.su_classes.specs.Items.{Keeps}
use Rattle.su_classes.specs.inside.Firsts.{AreMembersBelow}
use Rattle.su_classes.proofs.Merges.{progress_shortened}
use Rattle.su_classes.proofs.JoinedRows.{merging_shortened}
use Rattle.su_classes.proofs.sweeping.bind.Goals as goal
use Rattle.su_classes.proofs.sweeping.bind.Goals.{then-changed, else-changed}

pub join_firsts-changed-requires-clause-right : goal.join_firsts-changed-requires-clause-right
join_firsts-changed-requires-clause-right c = subst (λ (list : List ℕ). AreMembersBelow 128 c.args.fd.now.right list) (sym c.as_slice.ensures) c.in_ok-right.ensures

pub returns-clause-merging : goal.returns-clause-merging
returns-clause-merging c =
    elim c.if-changed.branch [
      | then-changed w ↦ rw w.table-is (merging_shortened (λ label. Keeps label c.args.rows.now c.args.fd.now) c.args.table.now c.join_firsts-changed.new.table w.flatten.new.table c.join_firsts-changed.ensures.merging w.flatten.ensures.shortened)
      | else-changed w ↦ rw w.table-is c.join_firsts-changed.ensures.merging
    ]

pub returns-clause-progress : goal.returns-clause-progress
returns-clause-progress c =
    elim c.if-changed.branch [
      | then-changed w ↦ rw w.table-is (progress_shortened c.args.table.now c.join_firsts-changed.new.table w.flatten.new.table c.join_firsts-changed.result c.join_firsts-changed.ensures.progress w.flatten.ensures.shortened)
      | else-changed w ↦ rw w.table-is c.join_firsts-changed.ensures.progress
    ]
