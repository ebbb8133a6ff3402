-- The statements so far were answered one after another, each handed the file that it wants; so a stop at some statement, or the end behind the last, is an end of the script.
use Rattle.std.proofs.Common.{refl, subst, sym, ap, ◌∙◌, Err, inl, inr, arith}
use Rattle.std.proofs.lemmas.Result.{err_from_is_err_and}
use Rattle.std.proofs.lemmas.List.{take_all}
use Rattle.su_lex.specs.Pieces.{Pieces}
use Rattle.sysu_doctor.specs.inside.Turns.{ScriptEnds}
use Rattle.sysu_doctor.proofs.ScriptRuns.{none_yet, refusals_none, one_more, no_line, stops_here, answered_all}
use Rattle.sysu_doctor.proofs.statements.answer_all.Goals as goal

pub loop-k-init : goal.loop-k-init
loop-k-init g c = none_yet c.args.script.now c.as_slice-span-items.result.now c.args.session.now _ c.args.outside.now (refusals_none _ c.none-found.ensures.fault c.none-found.ensures.lines)

pub loop-k-preserved : goal.loop-k-preserved
loop-k-preserved g c =
    one_more c.args.script.now c.as_slice-span-items.result.now c.loop-k.k _ c.args.session.now c.loop-k.session c.answer_one.new.session c.loop-k.found c.args.outside.now c.loop-k.outside c.answer_one.new.outside
    c.loop-k-test.true c.loop-k.invariant c.in_ok-reply.ensures.rest c.in_ok-reply.reply c.in_ok-reply.ensures.ends _ c.in-Ok-add_reply.ensures.fault c.in-Ok-add_reply.ensures.lines

pub returns-in_err-reply-clause-ends : goal.returns-in_err-reply-clause-ends
returns-in_err-reply-clause-ends g c =
    let p = err_from_is_err_and c.from_residual.result c.from_residual.ensures.1 in
    let pieces : Pieces c.args.script.now c.as_slice-span-items.result.now = rw c.as_slice-span-items.ensures (c.in-Ok.ensures.pieces) in
    subst (ScriptEnds c.args.session.now c.args.script.now c.answer_one.new.session _ _) (sym (p.1 ∙ ap Err p.2))
    (inl (
      c.as_slice-span-items.result.now,
      pieces,
      stops_here c.args.script.now c.as_slice-span-items.result.now c.loop-k.k _ c.args.session.now c.loop-k.session c.answer_one.new.session c.loop-k.found c.args.outside.now c.loop-k.outside c.answer_one.new.outside
          c.loop-k-test.true c.loop-k.invariant c.in_err-reply.ensures.rest _ c.in_err-reply.ensures.ends,
    ))

pub returns-in_default-add_reply-clause-ends : goal.returns-in_default-add_reply-clause-ends
returns-in_default-add_reply-clause-ends g c =
    let pieces : Pieces c.args.script.now c.as_slice-span-items.result.now = rw c.as_slice-span-items.ensures (c.in-Ok.ensures.pieces) in
    inl (
      c.as_slice-span-items.result.now,
      pieces,
      no_line c.args.script.now c.as_slice-span-items.result.now c.loop-k.k _ c.args.session.now c.loop-k.session c.answer_one.new.session c.loop-k.found c.args.outside.now c.loop-k.outside c.answer_one.new.outside
          c.loop-k-test.true c.loop-k.invariant c.in_ok-reply.ensures.rest c.in_ok-reply.reply c.in_ok-reply.ensures.ends,
    )

pub returns-clause-ends : goal.returns-clause-ends
returns-clause-ends g c =
    let spans = c.as_slice-span-items.result.now in
    let pieces : Pieces c.args.script.now spans = rw c.as_slice-span-items.ensures (c.in-Ok.ensures.pieces) in (
      spans,
      pieces,
      answered_all c.args.script.now spans c.loop-k.k c.args.session.now c.loop-k.session c.loop-k.found c.args.outside.now c.loop-k.outside (take_all c.loop-k.k spans (let t = c.loop-k-test.false in omega arith)) c.loop-k.invariant,
    )

pub returns-in_default-clause-ends : goal.returns-in_default-clause-ends
returns-in_default-clause-ends g c = inr (refl, refl)
