-- The reply is to this text and to the file that it was handed; where no reply is made, or the file isn't handed over, the turn ends so.
use Rattle.std.proofs.Common.{refl, subst, sym, ap, ◌∙◌, Err, inl, inr}
use Rattle.std.proofs.lemmas.Result.{err_from_is_err_and}
use Rattle.sysu_doctor.specs.inside.Turns.{TurnEnds}
use Rattle.sysu_doctor.proofs.ScriptRuns.{handed_well, turn_fault}
use Rattle.sysu_doctor.proofs.statements.answer_one.Goals as goal

pub returns-in-Ok-carry_out-clause-ends : goal.returns-in-Ok-carry_out-clause-ends
returns-in-Ok-carry_out-clause-ends g c =
    let handed = handed_well c.args.session.now c.args.text.now c.args.outside.now c.handed.new.outside c.in_ok-file.file (c.in_ok-file.ensures.ends c.args.text.now c.in-Ok.ensures) in (
      record {
        file = c.in_ok-file.file;
        handed = handed.1;
        replied = rw c.bytes_of.ensures at (c.in-Ok-carry_out.ensures.replied c.args.text.now c.in-Ok.ensures);
        kept = c.carry_out.ensures.kept;
      },
      handed.0,
    )

pub returns-in_err-file-clause-ends : goal.returns-in_err-file-clause-ends
returns-in_err-file-clause-ends g c =
    let p = err_from_is_err_and c.from_residual.result c.from_residual.ensures.1 in
    subst (TurnEnds c.args.session.now c.args.text.now c.args.session.now _ _) (sym (p.1 ∙ ap Err p.2))
    (turn_fault c.args.session.now c.args.text.now c.args.session.now _ _ _ (c.in_err-file.ensures.ends c.args.text.now c.in-Ok.ensures))

pub returns-clause-ends : goal.returns-clause-ends
returns-clause-ends g c =
    inr (refl, (handed_well c.args.session.now c.args.text.now c.args.outside.now c.handed.new.outside c.in_ok-file.file (c.in_ok-file.ensures.ends c.args.text.now c.in-Ok.ensures)).0)

pub returns-in_default-clause-ends : goal.returns-in_default-clause-ends
returns-in_default-clause-ends g c = inr (refl, inl refl)
