-- The command was read of this text, and carrying it out replies to every text that is read as it; so it replies to this one.
use Rattle.std.proofs.Common.{List, ℕ, option_map}
use Rattle.std.proofs.lemmas.Result.{IfOk-weaker}
use Rattle.su_session.specs.Commands.{IsRead}
use Rattle.su_session.specs.Reply.{Replied}
use Rattle.su_session.proofs.sessions.Session.step.Goals as goal

pub carry_out-requires-clause-read : goal.carry_out-requires-clause-read
carry_out-requires-clause-read g c = λ lives outlives. (c.args.text.now, c.in_ok-command.ensures)

pub returns-clause-replied : goal.returns-clause-replied
returns-clause-replied g c =
    let old = c.args.self.now in
    let new = c.carry_out.new.self in
    let text = c.args.text.now in
    let file = option_map (λ bytes. bytes.now) c.args.file in
    IfOk-weaker c.carry_out.result (λ reply. (read : List ℕ) → IsRead read c.in_ok-command.command → Replied old read file reply new) (λ reply. Replied old text file reply new)
    (λ reply h. h text c.in_ok-command.ensures) c.carry_out.ensures.replied
