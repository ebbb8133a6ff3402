-- A text that was written whole is one text more, told as the pieces that made it up, and no fault rose.
use Rattle.su_io.proofs.WrittenTexts.{wrote_one}
use Rattle.su_io.proofs.outside.Outside.write.Goals as goal

pub returns-clause-ok : goal.returns-clause-ok
returns-clause-ok g c = rw (← c.self.view_is) (wrote_one c.write_all.result _ _ c.args.text.now _ _ c.write_all.ensures.ok c.write_all.ensures.whole c.write_all.ensures.over c.write_all.ensures.cause.accepted)
