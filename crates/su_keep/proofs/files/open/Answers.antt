-- Files that were just opened have what they began with.
use Rattle.std.proofs.Common.{ℕ, Bool, cond, List, ap₂, subst}
use Rattle.sqlite_disk.specs.Events.{Event, replay}
use Rattle.sqlite_wal.specs.Recovery.{Image}
use Rattle.su_keep.specs.Opened.{IsFoundIn}
use Rattle.su_keep.proofs.files.open.Goals as goal

abbrev image : List ℕ → List ℕ → Image
image log db = record { log = log; db = db }

abbrev seen : List ℕ → List ℕ → Bool → List Event → List ℕ
seen log db is_log history = (replay (cond is_log log db) history).seen

pub returns-in-Ok-open_over-clause-found : goal.returns-in-Ok-open_over-clause-found
returns-in-Ok-open_over-clause-found g c = λ clean.
    let (log, db) = c.in-Ok-open.ensures.fresh in
    let same = ap₂ image (ap₂ (seen g.S.Start.log g.S.Start.db) log.0 log.1) (ap₂ (seen g.S.Start.log g.S.Start.db) db.0 db.1) in
    subst (λ i. IsFoundIn i c.in-Ok-open_over.opened.1) same (c.in-Ok-open_over.ensures.found clean)
