-- The piece is taken up, and then the group is closed, or not yet; each way the talk stands as it did, with one entry more.
use Rattle.std.proofs.Common.{[], refl, ap, sym, append-nil}
use Rattle.su_talk.specs.declared.talking.Talk.{Talk}
use Rattle.su_talk.specs.Events.{come_of}
use Rattle.su_talk.proofs.Closing.{leads_closed, stops_closing, stops_long, ends_closing}
use Rattle.su_talk.proofs.Pieces.{fits_held}
use Rattle.su_talk.proofs.Results.{on_ok_then}
use Rattle.su_talk.proofs.Turns.{taken_up}
use Rattle.su_talk.proofs.talking.Talk.answer_piece.Goals as goal

pub returns-in-Err-clause-ends : goal.returns-in-Err-clause-ends
returns-in-Err-clause-ends g c first events pieces at next = stops_closing (g.C.Company.files c.args.company.now) first events pieces c.args.self.now at c.in-Err.close _ _ c.in-Err.ensures.failed

pub returns-then-is_long-clause-ends : goal.returns-then-is_long-clause-ends
returns-then-is_long-clause-ends g c first events pieces at next =
    stops_long (g.C.Company.files c.args.company.now) first events pieces c.args.self.now at c.args.piece _ _ next.front (c.is_long.ensures.long c.if-is_long.true) c.in_default.ensures.events

pub returns-then-len-ge-HELD-clause-leads : goal.returns-then-len-ge-HELD-clause-leads
returns-then-len-ge-HELD-clause-leads g c =
    on_ok_then c.close_group-then-len-ge-HELD.result _ _
    (λ kept. leads_closed (g.C.Company.keeps c.close_group-then-len-ge-HELD.new.company) c.take_up.new.self c.close_group-then-len-ge-HELD.new.self c.close_group-then-len-ge-HELD.ensures.rest c.close_group-then-len-ge-HELD.ensures.empty kept)
    c.close_group-then-len-ge-HELD.ensures.kept

pub returns-then-len-ge-HELD-clause-ends : goal.returns-then-len-ge-HELD-clause-ends
returns-then-len-ge-HELD-clause-ends g c first events pieces at next =
    let fits = fits_held (come_of events) next.before c.args.self.now.stream c.args.piece next.come c.requires.holds (c.is_long.ensures.short c.if-is_long.false) in
    let up = c.in-Ok.ensures.up (come_of events) next.before next.come in
    let taken = taken_up (g.C.Company.files c.args.company.now) first events pieces c.args.piece c.args.self.now c.take_up.new.self at fits next.front up in
    ends_closing (g.C.Company.files c.args.company.now) first events _ c.take_up.new.self c.close_group-then-len-ge-HELD.new.self c.close_group-then-len-ge-HELD.result c.args.self.now.manner.frames _ _ _
    taken (sym (ap (λ (t : Talk). t.manner.frames) up.rest)) c.close_group-then-len-ge-HELD.ensures.rest c.close_group-then-len-ge-HELD.ensures.empty c.take_up.ensures.events c.close_group-then-len-ge-HELD.ensures.events c.close_group-then-len-ge-HELD.ensures.failed

pub returns-clause-ends : goal.returns-clause-ends
returns-clause-ends g c first events pieces at next =
    let fits = fits_held (come_of events) next.before c.args.self.now.stream c.args.piece next.come c.requires.holds (c.is_long.ensures.short c.if-is_long.false) in
    let up = c.in-Ok.ensures.up (come_of events) next.before next.come in
    let taken = taken_up (g.C.Company.files c.args.company.now) first events pieces c.args.piece c.args.self.now c.take_up.new.self at fits next.front up in
    ([], c.take_up.ensures.events, refl, refl, rw (append-nil events) taken)
