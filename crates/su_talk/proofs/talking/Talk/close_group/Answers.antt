-- What is kept stays kept as the replies are handed over.
use Rattle.su_talk.proofs.Results.{on_ok, fails_told}
use Rattle.su_talk.proofs.talking.Talk.close_group.Goals as goal

pub returns-in-Ok-clause-kept : goal.returns-in-Ok-clause-kept
returns-in-Ok-clause-kept g c =
    let kept = rw c.database-db.ensures at c.in-Ok.ensures.kept in
    on_ok c.tell.result _ (kept.0, c.tell.ensures.keeps kept.0 kept.1, kept.2, kept.3)

pub returns-in-Ok-clause-failed : goal.returns-in-Ok-clause-failed
returns-in-Ok-clause-failed g c =
    fails_told c.tell.result c.args.self.now.group c.args.self.now.session _ _ _
    (rw (c.database-db.ensures, c.replace-group.ensures.value) at c.in-Ok.ensures.events) (rw (c.as_slice.ensures.value, c.replace-group.ensures.value) at c.tell.ensures.failed)
