-- All that has ended was told, so more may be asked for.
use Rattle.std.proofs.Common.{◌<◌, take, length, arith, ◌∷◌, []}
use Rattle.su_talk.specs.Events.Event.{Asked, Came, NotRead}
use Rattle.std.proofs.lemmas.List.{length-take}
use Rattle.su_talk.proofs.Hearing.{unread, no_room, heard_some, heard_none}
use Rattle.su_talk.proofs.talking.Talk.hear.Goals as goal

pub returns-in_default-clause-ends : goal.returns-in_default-clause-ends
returns-in_default-clause-ends g c first events pieces ready =
    (Asked ∷ NotRead ∷ [], c.in_default.ensures.failed, unread (g.C.Company.files c.args.company.now) first events pieces c.args.self.now ready c.requires.empty c.requires.ended)

pub returns-then-count-eq0-clause-ends : goal.returns-then-count-eq0-clause-ends
returns-then-count-eq0-clause-ends g c first events pieces ready =
    (Asked ∷ Came [] ∷ [], pieces, rw c.if-count-eq0.true at c.in-Ok.ensures.came, heard_none (g.C.Company.files c.args.company.now) first events pieces c.args.self.now ready c.requires.empty c.requires.ended)

pub returns-in_default-push-clause-ends : goal.returns-in_default-push-clause-ends
returns-in_default-push-clause-ends g c first events pieces ready =
    (_, c.in-Ok.ensures.came, no_room (g.C.Company.files c.args.company.now) first events pieces c.args.self.now ready c.requires.empty c.requires.ended (take c.in-Ok.count c.ask.new.buf))

pub returns-clause-ends : goal.returns-clause-ends
returns-clause-ends g c first events pieces ready =
    let long = length-take c.in-Ok.count c.ask.new.buf in
    let some : 0 < length (take c.in-Ok.count c.ask.new.buf) = omega (arith, long, c.in-Ok.ensures.bound, c.if-count-eq0.false) in
    (_, pieces, c.in-Ok.ensures.came, heard_some (g.C.Company.files c.args.company.now) first events pieces c.args.self.now ready c.requires.empty c.requires.ended (take c.in-Ok.count c.ask.new.buf) c.push.new.self some c.in-Ok-push.ensures.took)
