-- No text of these symbols begins a definition, so it is a statement or at fault; a fault that isn't want of memory is the definition's refusal, and the reply tells it.
use Rattle.std.proofs.Common.{◌≡◌, ◌≢◌, ℕ, List, inl, inr, sym, subst}
use Rattle.std.proofs.lemmas.Result.{IfOk-weaker}
use Rattle.su_lex.specs.Symbols.{Symbols}
use Rattle.su_query.specs.declared.faults.QueryFault.TheVariants.{NoMemory}
use Rattle.su_session.specs.declared.commands.Command.{Command}
use Rattle.su_session.specs.declared.commands.Command.TheVariants.{Refused}
use Rattle.su_session.specs.Commands.{IsRead}
use Rattle.su_session.proofs.Texts.{not_defining}
use Rattle.su_session.proofs.commands.read_statement.Goals as goal

pub returns-in-Ok : goal.returns-in-Ok
returns-in-Ok c text spelled = (not_defining text c.args.symbols spelled c.requires, c.in-Ok.ensures.found text spelled, c.in-Ok.ensures.few)

pub returns-in-Err : goal.returns-in-Err
returns-in-Err c =
    let symbols = c.args.symbols in
    let fault = c.in-Err.fault in
    IfOk-weaker c.refused.result (λ command. (command ≡ Refused fault) × (fault ≢ NoMemory)) (λ command. (text : List ℕ) → Symbols text symbols → IsRead text command)
    (λ command h text spelled. elim c.in-Err.ensures.refused [
      | inl memory ↦ absurd (h.1 memory)
      | inr refused ↦ subst (λ (k : Command). IsRead text k) (sym h.0) (inr (not_defining text symbols spelled c.requires, refused text spelled))
    ]) c.refused.ensures
