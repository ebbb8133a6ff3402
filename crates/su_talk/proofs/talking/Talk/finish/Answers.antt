-- With frames nothing more is answered; without, the last piece is, and then the group is closed.
use Rattle.su_talk.proofs.Finishing.{finished_now, last_stops, last_closed}
use Rattle.su_talk.proofs.talking.Talk.finish.Goals as goal

pub returns-then-framed : goal.returns-then-framed
returns-then-framed g c = record {
  ends = λ first events pieces is. finished_now (g.C.Company.files c.args.company.now) first events pieces c.args.self.now is c.requires.empty _ c.if-framed.true;
}

pub returns-in-Ok : goal.returns-in-Ok
returns-in-Ok g c = record {
  ends = λ first events pieces is.
      last_closed (g.C.Company.files c.args.company.now) first events pieces c.args.self.now is c.requires.empty c.last-last.result c.last-last.ensures.closes c.answer_piece.new.self _ _ _
      c.close_group.new.self _ c.close_group.result c.in-Ok.ensures.ends c.if-framed.false c.in-Ok.ensures.manner c.close_group.ensures.rest c.close_group.ensures.empty c.close_group.ensures.events c.close_group.ensures.failed;
}

pub returns-in-Err : goal.returns-in-Err
returns-in-Err g c = record {
  ends = λ first events pieces is.
      last_stops (g.C.Company.files c.args.company.now) first events pieces c.args.self.now is c.requires.empty c.last-last.result c.last-last.ensures.closes c.answer_piece.new.self _ _ (g.C.Company.events c.answer_piece.new.company) c.in-Err.close c.in-Err.ensures.ends;
}
