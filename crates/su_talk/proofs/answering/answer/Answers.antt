-- What comes of the command comes of the text that it was read of.
use Rattle.std.proofs.Common.{subst}
use Rattle.su_session.specs.WantedFiles.{Wants}
use Rattle.su_talk.specs.Answers.AnswersOne.{without_file}
use Rattle.su_talk.proofs.answering.answer.Goals as goal

pub returns-in_ok-outcome-in-Nothing-clause-comes : goal.returns-in_ok-outcome-in-Nothing-clause-comes
returns-in_ok-outcome-in-Nothing-clause-comes g c = record {
  answers = without_file (subst (Wants c.args.session.now c.args.text.now) c.in-Nothing.is (c.in_ok-wants.ensures c.args.text.now c.in_ok-command.ensures)) (c.in_ok-outcome-in-Nothing.ensures.replied c.args.text.now c.in_ok-command.ensures);
  makes = c.in_ok-outcome-in-Nothing.ensures.makes;
}

pub returns-in_ok-outcome-in-File-clause-comes : goal.returns-in_ok-outcome-in-File-clause-comes
returns-in_ok-outcome-in-File-clause-comes g c =
    c.in_ok-outcome-in-File.ensures.comes c.args.text.now c.in_ok-command.ensures (subst (Wants c.args.session.now c.args.text.now) c.in-File.is (c.in_ok-wants.ensures c.args.text.now c.in_ok-command.ensures))
