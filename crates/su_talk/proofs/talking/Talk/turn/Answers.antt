-- What is asked for behind the last answer is asked for in the turn.
use Rattle.std.proofs.Common.{ap}
use Rattle.su_talk.specs.declared.manners.Manner.{Manner}
use Rattle.su_talk.proofs.GoingOn.{turn_ends}
use Rattle.su_talk.proofs.talking.Talk.turn.Goals as goal

pub returns-clause-ends : goal.returns-clause-ends
returns-clause-ends g c first events pieces ready =
    turn_ends (g.C.Company.files c.args.company.now) _ first events c.answer_ended.new.self c.hear.new.self c.args.self.now.manner.frames _ _ _ c.hear.result c.answer_ended.ensures.files (ap (λ (m : Manner). m.frames) c.in_default.ensures.same) (c.in_default.ensures.ends first events pieces ready) c.hear.ensures.ends
