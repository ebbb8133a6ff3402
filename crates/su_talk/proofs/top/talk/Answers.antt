-- The talk begins with nothing told, and ends as it goes on.
use Rattle.std.proofs.Common.{refl, []}
use Rattle.su_talk.proofs.Starting.{ready_first, talked_done, talked_refused}
use Rattle.su_talk.proofs.top.talk.Goals as goal

pub returns-in-Err : goal.returns-in-Err
returns-in-Err g c = c.in-Err.ensures c.args.session [] [] (ready_first (g.C.Company.files c.args.company.now) _ c.new.ensures c.new-2.ensures refl refl)

pub returns-in-Ok : goal.returns-in-Ok
returns-in-Ok g c =
    talked_refused c.args.manner.frames _ (g.C.Company.files c.args.company.now) c.args.session _ _ c.if-talk.true (c.in-Ok.ensures c.args.session [] [] (ready_first (g.C.Company.files c.args.company.now) _ c.new.ensures c.new-2.ensures refl refl))

pub returns : goal.returns
returns g c =
    talked_done c.args.manner.frames _ (g.C.Company.files c.args.company.now) c.args.session _ _ c.if-talk.false (c.in-Ok.ensures c.args.session [] [] (ready_first (g.C.Company.files c.args.company.now) _ c.new.ensures c.new-2.ensures refl refl))
