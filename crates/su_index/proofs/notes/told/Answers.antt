-- What notes by fewer columns tell holds of the wider set too, since rows that agree in it agree in these.
use Rattle.su_index.proofs.Digests.{Tells-more}
use Rattle.su_index.proofs.notes.told.Goals as goal

pub returns-in-Some : goal.returns-in-Some
returns-in-Some c =
    Tells-more c.index-notes-k.result.columns c.args.columns c.args.rows.now c.args.row.now c.tells.result (rw (← c.index-notes-k.is) at (c.in-Some.ensures.1 c.index-notes-k.result)) c.tells.ensures
