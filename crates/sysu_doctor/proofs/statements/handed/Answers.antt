-- The command was read of the text, so that the file it wants is the one the text wants, and how its reading ends is how the handing ends.
use Rattle.std.proofs.Common.{refl, subst, sym, ap, ◌∙◌, Err, inl}
use Rattle.std.proofs.lemmas.Result.{err_from_is_err_and}
use Rattle.su_io.specs.Moments.{Moment}
use Rattle.su_session.specs.WantedFiles.{Wants}
use Rattle.sysu_doctor.specs.inside.Turns.{HandingEnds}
use Rattle.sysu_doctor.proofs.statements.handed.Goals as goal

pub returns-in-Ok-Nothing-clause-ends : goal.returns-in-Ok-Nothing-clause-ends
returns-in-Ok-Nothing-clause-ends g c = λ text is. (subst (Wants c.args.session.now text) c.in-Ok-Nothing.field-0-is (c.in-Ok-Nothing.ensures text is), refl)

pub returns-in_ok-bytes-in-Ok-File-clause-ends : goal.returns-in_ok-bytes-in-Ok-File-clause-ends
returns-in_ok-bytes-in-Ok-File-clause-ends g c = λ text is. record {
  path = _;
  wanted = subst (Wants c.args.session.now text) c.in-Ok-File.field-0-is (c.in-Ok-File.ensures text is);
  begun = ap (λ (m : Moment). m.begun) c.in_ok-bytes-in-Ok-File.ensures.rest;
  ends = c.in_ok-bytes-in-Ok-File.ensures.ends;
}

pub returns-in_err-bytes-in-Ok-File-clause-ends : goal.returns-in_err-bytes-in-Ok-File-clause-ends
returns-in_err-bytes-in-Ok-File-clause-ends g c = λ text is.
    let p = err_from_is_err_and c.from_residual.result c.from_residual.ensures.1 in
    subst (HandingEnds c.args.session.now text _ _) (sym (p.1 ∙ ap Err p.2))
    (inl record {
      path = _;
      wanted = subst (Wants c.args.session.now text) c.in-Ok-File.field-0-is (c.in-Ok-File.ensures text is);
      begun = ap (λ (m : Moment). m.begun) c.in_err-bytes-in-Ok-File.ensures.rest;
      ends = c.in_err-bytes-in-Ok-File.ensures.ends;
    })
