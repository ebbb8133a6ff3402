-- A store that is made has no row, and what a making leaves is one on its way.
use Rattle.std.proofs.Common.{inl, inr, ap, ◌∙◌}
use Rattle.sqlite_trees.specs.Tree.{Trees}
use Rattle.sqlite_trees.proofs.Doubt.{clean_of}
use Rattle.su_keep.proofs.OpenedFiles.{clean_files, creates_leave}
use Rattle.su_keep.proofs.opening.make.Goals as goal

pub returns-in-Ok-create-clause-stands : goal.returns-in-Ok-create-clause-stands
returns-in-Ok-create-clause-stands g c = λ now. let e = c.in-Ok-create.ensures in
    record { settled = e.ready.clean; is_open = e.ready.is_open now; sound = e.ready.sound now; numbered = e.numbered }

pub returns-in-Ok-create-clause-found : goal.returns-in-Ok-create-clause-found
returns-in-Ok-create-clause-found g c = λ now.
    let e = c.in-Ok-create.ensures in
    let clean = clean_of _ now in
    inr (inl (c.requires.blank (clean_files c.in-Ok.fresh c.args.files c.in-Ok.ensures.files (e.honest clean))), λ t low. ap (λ (trees : Trees). trees t) e.ready.clean ∙ e.empty clean t low)

pub returns-in-Err-create-clause-unharmed : goal.returns-in-Err-create-clause-unharmed
returns-in-Err-create-clause-unharmed g c = λ clean.
    let e = c.in-Err-create.ensures in
    creates_leave c.in-Ok.fresh c.in-Err-create.left c.args.files c.in-Ok.ensures.files c.in-Ok.ensures.size
    (c.requires.blank (clean_files c.in-Ok.fresh c.args.files c.in-Ok.ensures.files (e.falls clean))) (e.unharmed clean)
