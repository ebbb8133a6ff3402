-- The session was made by the script's statements on the empty database, and the four lines found in it stand behind the line that tells the bank's size.
use Rattle.std.proofs.Common.{◌≡◌, ◌++◌, ◌∙◌, ap, refl}
use Rattle.std.specs.Prelude.{string_bytes}
use Rattle.su_ddl.specs.Files.{no_definitions}
use Rattle.su_session.specs.EmptyDatabase.{empty_database}
use Rattle.su_bank.specs.Scripts.{bank_script}
use Rattle.su_bank.proofs.Statements.{same_script}
use Rattle.su_bank.proofs.banks.bank_text.Goals as goal

pub returns : goal.returns
returns g c =
    let lines = c.in_ok-push_lines.ensures.lines in
    let front : c.into_bytes-text.result.items ≡ string_bytes c.in_ok-format.field-0 = rw c.into_bytes-text.ensures.value refl in
    record {
      bank = c.take_script.new.session;
      made = same_script (empty_database no_definitions) c.in_ok-session.session c.take_script.new.session (bank_script c.args.n) c.as_bytes.result.now
          (c.in_ok-session.ensures ∙ ap empty_database c.new.ensures) (c.as_bytes.ensures.value ∙ c.as_str.ensures.value ∙ c.in_ok-script.ensures) c.in_ok-take_script.ensures;
      lines = lines;
      last = c.push_lines.new.session;
      found = c.in_ok-push_lines.ensures.found;
      text_is = c.from_vec.ensures ∙ c.in_ok-push_lines.ensures.text_is ∙ ap (λ s. s ++ lines) (front ∙ c.in_ok-format.ensures.ok);
    }
