-- Each turn answers what has ended and then asks for more.
use Rattle.std.proofs.Common.{◌≡◌, ◌++◌, ◌∙◌, ℕ, List, length, drop, length-append, length-drop, Ok, Err, refl, ap, arith}
use Rattle.std.proofs.lemmas.List.{length-take}
use Rattle.su_talk.specs.declared.manners.Manner.{Manner}
use Rattle.su_talk.proofs.Starting.{leads_first}
use Rattle.su_talk.proofs.GoingOn.{finish_ends, turn_ends, heard_more, heard_end, no_memory, no_memory_behind, goes_on}
use Rattle.su_talk.proofs.talking.Talk.go_on.Goals as goal

pub returns-in_default : goal.returns-in_default
returns-in_default g c first events pieces ready = no_memory (g.C.Company.files c.args.company.now) first events pieces c.args.self.now _ ready

pub loop-turn-init : goal.loop-turn-init
loop-turn-init g c = record {
  room = c.in-Ok.ensures;
  files = refl;
  leads = leads_first (g.C.Company.keeps c.args.company.now) c.args.self.now.session c.args.self.now.group.changes c.requires.unchanged c.requires.kept;
  manner = refl;
  goes = λ first events pieces ready. goes_on (g.C.Company.files c.args.company.now) first events pieces c.args.self.now _ ready;
}

pub returns-in-Err : goal.returns-in-Err
returns-in-Err g c first events pieces ready =
    let inv = c.loop-turn.invariant in
    turn_ends (g.C.Company.files c.args.company.now) _ first events c.loop-turn.self c.turn.new.self c.args.self.now.manner.frames _ _ _ (Err c.in-Err.close) inv.files (ap (λ (m : Manner). m.frames) inv.manner) (inv.goes first events pieces ready) c.in-Err.ensures.ends

pub returns-in-Ok-false : goal.returns-in-Ok-false
returns-in-Ok-false g c first events pieces ready =
    let inv = c.loop-turn.invariant in
    let heard = heard_end (g.C.Company.files c.args.company.now) first events c.args.self.now.manner.frames c.turn.new.self _ _ c.in-Ok-false.field-0 c.in-Ok-false.field-0-test
    (turn_ends (g.C.Company.files c.args.company.now) _ first events c.loop-turn.self c.turn.new.self c.args.self.now.manner.frames _ _ _ (Ok c.in-Ok-false.field-0) inv.files (ap (λ (m : Manner). m.frames) inv.manner) (inv.goes first events pieces ready) c.in-Ok-false.ensures.ends) in
    finish_ends (g.C.Company.files c.args.company.now) _ first events c.turn.new.self c.finish.new.self c.args.self.now.manner.frames _ _ _ c.finish.result (c.turn.ensures.files ∙ inv.files) (ap (λ (m : Manner). m.frames) (c.in-Ok-false.ensures.manner ∙ inv.manner)) heard c.finish.ensures.ends

pub loop-turn-preserved : goal.loop-turn-preserved
loop-turn-preserved g c =
    let inv = c.loop-turn.invariant in
    let given = c.turn.new.buffer in
    let held = c.loop-turn.buffer.items in
    let same : length c.as_mut_slice.result.now ≡ length held = ap (λ (l : List ℕ). length l) c.as_mut_slice.ensures.value in
    let behind = drop (length given) held in
    record {
      room = omega (arith, inv.room, same, c.as_mut_slice.ensures.len, length-take c.loop-turn.buffer.len (given ++ behind), length-append given behind, length-drop (length given) held);
      files = c.turn.ensures.files ∙ inv.files;
      leads = c.in-Ok-true.ensures.leads;
      manner = c.in-Ok-true.ensures.manner ∙ inv.manner;
      goes = λ first events pieces ready.
          heard_more (g.C.Company.files c.args.company.now) first events c.args.self.now.manner.frames c.turn.new.self _ _ c.in-Ok-true.field-0 c.in-Ok-true.field-0-test
          (turn_ends (g.C.Company.files c.args.company.now) _ first events c.loop-turn.self c.turn.new.self c.args.self.now.manner.frames _ _ _ (Ok c.in-Ok-true.field-0) inv.files (ap (λ (m : Manner). m.frames) inv.manner) (inv.goes first events pieces ready) c.in-Ok-true.ensures.ends);
    }

pub returns : goal.returns
returns g c first events pieces ready =
    let inv = c.loop-turn.invariant in
    no_memory_behind (g.C.Company.files c.args.company.now) first events c.loop-turn.self c.args.self.now.manner.frames _ _ (ap (λ (m : Manner). m.frames) inv.manner) (inv.goes first events pieces ready)
