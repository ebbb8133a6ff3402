-- Whatever was handed over, the reply is to this text and this file, told whole or as a front where the write fails; where no reply is made, the turn ends before it, and nothing is told.
use Rattle.std.proofs.Common.{subst, sym, ap, ◌∙◌, Err}
use Rattle.std.proofs.lemmas.Result.{err_from_is_err_and}
use Rattle.sysu.specs.inside.Turns.{TurnEnds}
use Rattle.sysu.proofs.HandedFiles.{none_read, no_reply, told_whole, told_front, turn_fault}
use Rattle.sysu.proofs.statements.answer_one.Goals as goal

pub returns-in-Ok-write-clause-ends : goal.returns-in-Ok-write-clause-ends
returns-in-Ok-write-clause-ends g c =
    told_whole c.args.session.now c.carry_out.new.self c.args.text.now c.in_ok-file.file c.args.outside.now c.handed.new.outside (c.in_ok-file.ensures.ends c.args.text.now c.in-Ok.ensures)
    c.write.new.self c.in-Ok-write.ensures.rest c.in-Ok-carry_out.reply (rw c.bytes_of.ensures at (c.in-Ok-carry_out.ensures.replied c.args.text.now c.in-Ok.ensures)) c.carry_out.ensures.kept
    (rw c.as_slice.ensures at c.in-Ok-write.ensures.ok)

pub returns-clause-ends : goal.returns-clause-ends
returns-clause-ends g c =
    told_front c.args.session.now c.carry_out.new.self c.args.text.now c.in_ok-file.file c.args.outside.now c.handed.new.outside (c.in_ok-file.ensures.ends c.args.text.now c.in-Ok.ensures)
    c.write.new.self c.in-Err.ensures.rest c.in-Ok-carry_out.reply (rw c.bytes_of.ensures at (c.in-Ok-carry_out.ensures.replied c.args.text.now c.in-Ok.ensures)) c.carry_out.ensures.kept
    (rw c.as_slice.ensures at c.in-Err.ensures.err)

pub returns-in_err-file-clause-ends : goal.returns-in_err-file-clause-ends
returns-in_err-file-clause-ends g c =
    let p = err_from_is_err_and c.from_residual.result c.from_residual.ensures.1 in
    subst (TurnEnds c.args.session.now c.args.text.now c.args.session.now _ _) (sym (p.1 ∙ ap Err p.2))
    (turn_fault c.args.session.now c.args.text.now _ _ _ (c.in_err-file.ensures.ends c.args.text.now c.in-Ok.ensures))

pub returns-in_default-carry_out-clause-ends : goal.returns-in_default-carry_out-clause-ends
returns-in_default-carry_out-clause-ends g c =
    no_reply c.args.session.now c.carry_out.new.self c.args.text.now c.in_ok-file.file c.args.outside.now c.handed.new.outside (c.in_ok-file.ensures.ends c.args.text.now c.in-Ok.ensures)

pub returns-in_default-clause-ends : goal.returns-in_default-clause-ends
returns-in_default-clause-ends g c = none_read c.args.session.now c.args.text.now c.args.outside.now
