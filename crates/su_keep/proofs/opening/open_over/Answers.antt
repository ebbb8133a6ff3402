-- What is read is what the opened store holds, and that is what the files recover to.
use Rattle.std.proofs.Common.{Option, sym, subst, ◌∙◌}
use Rattle.sqlite_trees.specs.View.{IsClean}
use Rattle.sqlite_store.specs.FileStore.{view}
use Rattle.sqlite_store.specs.Laws.{settled_at}
use Rattle.su_entries.proofs.QuietCalls.{clean_before}
use Rattle.su_state.specs.DatabaseValue.{DatabaseValue}
use Rattle.su_keep.specs.Shown.{ShowsKept}
use Rattle.su_keep.specs.Opened.{StoodIn, image_of}
use Rattle.su_keep.proofs.Found.{shows_found}
use Rattle.su_keep.proofs.opening.open_over.Goals as goal

pub returns-in-Ok-read_database-clause-at : goal.returns-in-Ok-read_database-clause-at
returns-in-Ok-read_database-clause-at g c = λ clean.
    let store = c.in-Ok.store in
    let now : IsClean (view c.read_database.new.store) = subst (λ s. IsClean (view s)) c.keeper_of.ensures.store clean in
    let before = clean_before c.read_database.ensures.quiet now in
    c.keeper_of.ensures.at (view store) (c.in-Ok.ensures.stands before) (c.in-Ok-read_database.ensures.same now) (c.in-Ok-read_database.ensures.found now)

pub returns-in-Ok-read_database-clause-found : goal.returns-in-Ok-read_database-clause-found
returns-in-Ok-read_database-clause-found g c = λ clean.
    let store = c.in-Ok.store in
    let now : IsClean (view c.read_database.new.store) = subst (λ s. IsClean (view s)) c.keeper_of.ensures.store clean in
    let before = clean_before c.read_database.ensures.quiet now in
    let trees = (view store).trees in (
      trees,
      c.in-Ok.ensures.found before,
      subst (λ (kept : Option DatabaseValue). ShowsKept trees kept) (sym c.keeper_of.ensures.database) (shows_found trees c.in-Ok-read_database.found (c.in-Ok-read_database.ensures.found now)),
    )

pub returns-in-Err-read_database-clause-unharmed : goal.returns-in-Err-read_database-clause-unharmed
returns-in-Err-read_database-clause-unharmed g c = λ now trees may.
    let store = c.in-Ok.store in
    let before = clean_before c.read_database.ensures.quiet now in
    let stands = c.in-Ok.ensures.stands before in
    subst (StoodIn (image_of g.D.Disk c.args.files)) (stands.settled ∙ sym (settled_at store g.met.D.Disk.seen_may_stay trees stands.is_open (c.read_database.ensures.quiet.outcomes trees may)))
    (c.in-Ok.ensures.found before)
