-- The query is explained and then answered, each a step of the session, and the line is made of these two replies.
use Rattle.std.proofs.Common.{◌∙◌, ℕ, List, None, ap, subst}
use Rattle.std.proofs.lemmas.Result.{IfOk-weaker}
use Rattle.su_session.specs.Reply.{Replied}
use Rattle.su_bank.specs.Lines.{found_line}
use Rattle.su_bank.proofs.banks.find.Goals as goal

pub returns : goal.returns
returns g c =
    let explained = c.in_ok-explained.explained in let answered = c.in_ok-answered.answered in
    IfOk-weaker c.found_line.result _ _ (λ line is. record {
      kept = c.step.ensures.kept;
      explained = explained;
      between = c.step.new.self;
      explains = subst (λ (text : List ℕ). Replied c.args.session.now text None explained c.step.new.self) (c.as_bytes.ensures.value ∙ c.as_str.ensures.value ∙ c.in_ok-asked.ensures.ok) c.in_ok-explained.ensures.replied;
      still_kept = c.step-2.ensures.kept;
      answered = answered;
      answers = subst (λ (text : List ℕ). Replied c.step.new.self text None answered c.step-2.new.self) c.as_bytes-2.ensures.value c.in_ok-answered.ensures.replied;
      line_is = is ∙ ap (λ (x : List ℕ). found_line c.args.number x c.as_slice-2.result.now) c.as_slice.ensures ∙ ap (λ (x : List ℕ). found_line c.args.number explained.bytes x) c.as_slice-2.ensures;
    }) c.found_line.ensures
