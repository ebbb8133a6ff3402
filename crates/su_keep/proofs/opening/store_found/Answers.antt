-- The tables are those that the files recover to; a table that is begun stands where there was none.
use Rattle.std.proofs.Common.{inl, inr, sym, subst, ◌∙◌}
use Rattle.sqlite_store.specs.FileStore.{view}
use Rattle.sqlite_store.specs.Laws.{settled_at}
use Rattle.su_keep.specs.Opened.{StoodIn, image_of}
use Rattle.su_keep.proofs.OpenedFiles.{attached_stood, attached_begun, attached_leaves}
use Rattle.su_keep.proofs.opening.store_found.Goals as goal

pub returns-in-Ok-begin-clause-found : goal.returns-in-Ok-begin-clause-found
returns-in-Ok-begin-clause-found g c = λ now.
    let store = c.in-Ok-attach.store in
    let was = c.in-Ok-attach.ensures.ok (c.begin.ensures.clean now) in
    let stood = attached_stood c.in-Ok.found store c.args.files c.in-Ok.ensures.files c.in-Ok.ensures.size was in
    elim (c.in-Ok-begin.ensures.trees now) [
      | inl same ↦ subst (StoodIn (image_of g.D.Disk c.args.files)) (sym same) stood
      | inr begun ↦ attached_begun c.in-Ok.found store c.args.files (view c.begin.new.store).trees c.in-Ok.ensures.files c.in-Ok.ensures.size was begun
    ]

pub returns-in-Err-begin-clause-unharmed : goal.returns-in-Err-begin-clause-unharmed
returns-in-Err-begin-clause-unharmed g c = λ now trees may.
    let store = c.in-Ok-attach.store in
    let was = c.in-Ok-attach.ensures.ok (c.begin.ensures.clean now) in
    elim (c.begin.ensures.crash trees now may) [
      | inl old ↦ subst (StoodIn (image_of g.D.Disk c.args.files)) (was.stands.settled ∙ sym (settled_at store g.met.D.Disk.seen_may_stay trees was.stands.is_open old))
          (attached_stood c.in-Ok.found store c.args.files c.in-Ok.ensures.files c.in-Ok.ensures.size was)
      | inr begun ↦ attached_begun c.in-Ok.found store c.args.files trees c.in-Ok.ensures.files c.in-Ok.ensures.size was begun
    ]

pub returns-in-Err-attach-clause-unharmed : goal.returns-in-Err-attach-clause-unharmed
returns-in-Err-attach-clause-unharmed g c = λ clean.
    attached_leaves c.in-Ok.found c.in-Err-attach.refusal.left c.args.files c.in-Ok.ensures.files c.in-Ok.ensures.size (c.in-Err-attach.ensures.unharmed clean)
