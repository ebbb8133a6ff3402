-- The command was read of the text, so the file that was looked for is the one that the text wants.
use Rattle.std.proofs.Common.{refl, subst, sym}
use Rattle.su_effects.specs.declared.effects.Effect.{Effect}
use Rattle.su_effects.specs.Effects.{Makes}
use Rattle.su_talk.specs.Answers.AnswersOne.{with_file, missing, too_long}
use Rattle.su_talk.proofs.Effects.{none_made}
use Rattle.su_talk.proofs.answering.load.Goals as goal

pub returns-in-Ok-clause-comes : goal.returns-in-Ok-clause-comes
returns-in-Ok-clause-comes g c text is wants = record {
  answers = with_file c.args.path c.in-Ok.bytes wants
      (rw c.in_ok-copy.ensures at c.in-Ok.ensures.file).0 (rw c.in_ok-copy.ensures at c.in-Ok.ensures.file).1 (rw c.as_slice.ensures at (c.in_ok-outcome-in-Ok.ensures.replied text is));
  makes = c.in_ok-outcome-in-Ok.ensures.makes;
}

pub returns-in-Err-Failed-clause-comes : goal.returns-in-Err-Failed-clause-comes
returns-in-Err-Failed-clause-comes g c text is wants = record {
  answers = missing c.args.path wants (rw c.in_ok-copy.ensures at (c.in-Err-Failed.ensures.missing cc)) c.in_ok-outcome-in-Err-Failed.ensures.line refl;
  makes = subst (λ (e : Effect). Makes e c.args.session.now c.args.session.now) (sym c.in_ok-outcome-in-Err-Failed.ensures.none) (none_made c.args.session.now c.args.session.now refl);
}

pub returns-in-Err-TooLong-clause-comes : goal.returns-in-Err-TooLong-clause-comes
returns-in-Err-TooLong-clause-comes g c text is wants =
    let over = rw c.in_ok-copy.ensures at (c.in-Err-TooLong.ensures.over cc) in
    record {
      answers = too_long c.args.path wants over.0 over.1 c.in_ok-outcome-in-Err-TooLong.ensures.line refl;
      makes = subst (λ (e : Effect). Makes e c.args.session.now c.args.session.now) (sym c.in_ok-outcome-in-Err-TooLong.ensures.none) (none_made c.args.session.now c.args.session.now refl);
    }
