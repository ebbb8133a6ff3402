-- Each turn answers the piece that the stream gave; behind the last of them the group is closed.
use Rattle.std.proofs.Common.{refl, ◌∙◌, ◌++◌}
use Rattle.su_talk.specs.declared.talking.Talk.{Talk}
use Rattle.su_talk.proofs.Closing.{leads_closed}
use Rattle.su_talk.proofs.GoingOn.{stops_behind, goes_on, goes_behind, same_ready, answered_ready, answered_stops, ready_stops, ready_closed, ready_long}
use Rattle.su_talk.proofs.talking.Talk.answer_ended.Goals as goal

pub loop-piece-init : goal.loop-piece-init
loop-piece-init g c = record {
  files = refl;
  leads = c.requires;
  manner = refl;
  goes = λ first events pieces ready. goes_on (g.C.Company.files c.args.company.now) first events pieces c.args.self.now _ ready;
}

pub loop-piece-preserved : goal.loop-piece-preserved
loop-piece-preserved g c =
    let inv = c.loop-piece.invariant in
    let files = g.C.Company.files c.args.company.now in
    record {
      files = c.answer_piece.ensures.files ∙ inv.files;
      leads = c.in_default-answer_piece.ensures.leads;
      manner = c.in_default-answer_piece.ensures.manner ∙ inv.manner;
      goes = λ first events pieces ready.
          let went = inv.goes first events pieces ready in
          goes_behind files first events went.0 c.answer_piece.new.self _ _ _ went.2
          (answered_ready files first (events ++ went.0) went.1 c.in-Some.piece c.loop-piece.self c.next.new.self went.3 c.in-Some.ensures.gives c.answer_piece.new.self _ _ _ (rw inv.files at c.in_default-answer_piece.ensures.ends) c.in_default-answer_piece.ensures.stream);
    }

pub returns-in-Err-clause-ends : goal.returns-in-Err-clause-ends
returns-in-Err-clause-ends g c first events pieces ready =
    let inv = c.loop-piece.invariant in
    let files = g.C.Company.files c.args.company.now in
    let went = inv.goes first events pieces ready in
    stops_behind c.args.self.now.manner.frames files first events went.0 _ _ _ c.in-Err.close went.2
    (rw inv.manner at (answered_stops files first (events ++ went.0) went.1 c.in-Some.piece c.loop-piece.self c.next.new.self went.3 c.in-Some.ensures.gives c.answer_piece.new.self _ _ c.in-Err.close (rw inv.files at c.in-Err.ensures.ends)))

pub returns-in-Err-close_group-clause-ends : goal.returns-in-Err-close_group-clause-ends
returns-in-Err-close_group-clause-ends g c first events pieces ready =
    let inv = c.loop-piece.invariant in
    let files = g.C.Company.files c.args.company.now in
    let went = inv.goes first events pieces ready in
    let talk : Talk = record c.loop-piece.self { stream = c.next.new.self } in
    let now = same_ready files first (events ++ went.0) went.1 c.loop-piece.self c.next.new.self c.in_default.ensures.gives went.3 in
    stops_behind c.args.self.now.manner.frames files first events went.0 _ _ _ c.in-Err-close_group.fault went.2
    (rw inv.manner at (ready_stops files first (events ++ went.0) went.1 talk now _ _ c.in-Err-close_group.fault c.in-Err-close_group.ensures.failed))

pub returns-then-is_long-clause-ends : goal.returns-then-is_long-clause-ends
returns-then-is_long-clause-ends g c first events pieces ready =
    let inv = c.loop-piece.invariant in
    let files = g.C.Company.files c.args.company.now in
    let went = inv.goes first events pieces ready in
    let talk : Talk = record c.loop-piece.self { stream = c.next.new.self } in
    let now = same_ready files first (events ++ went.0) went.1 c.loop-piece.self c.next.new.self c.in_default.ensures.gives went.3 in
    stops_behind c.args.self.now.manner.frames files first events went.0 _ _ _ _ went.2
    (rw inv.manner at (ready_long files first (events ++ went.0) went.1 talk now _ _ c.close_group.new.self c.close_group.ensures.rest c.close_group.ensures.empty c.in_default-close_group.ensures.events c.last.result c.last.ensures.closes (c.is_long.ensures.long c.if-is_long.true)))

pub returns-clause-leads : goal.returns-clause-leads
returns-clause-leads g c =
    let talk : Talk = record c.loop-piece.self { stream = c.next.new.self } in
    leads_closed (g.C.Company.keeps c.close_group.new.company) talk c.close_group.new.self c.close_group.ensures.rest c.close_group.ensures.empty c.in_default-close_group.ensures.kept

pub returns-clause-ends : goal.returns-clause-ends
returns-clause-ends g c first events pieces ready =
    let inv = c.loop-piece.invariant in
    let files = g.C.Company.files c.args.company.now in
    let went = inv.goes first events pieces ready in
    let talk : Talk = record c.loop-piece.self { stream = c.next.new.self } in
    let now = same_ready files first (events ++ went.0) went.1 c.loop-piece.self c.next.new.self c.in_default.ensures.gives went.3 in
    goes_behind files first events went.0 c.close_group.new.self _ _ _ went.2
    (ready_closed files first (events ++ went.0) went.1 talk now _ _ c.close_group.new.self c.close_group.ensures.rest c.close_group.ensures.empty c.in_default-close_group.ensures.events)
