-- The symbols are those that the text spells, so that what is read of them is read of it; a text without symbols is neither a definition nor a statement.
use Rattle.std.proofs.Common.{Err, ℕ, List, inl, inr, ap}
use Rattle.std.proofs.lemmas.Result.{IfOk-weaker}
use Rattle.su_lex.specs.Symbols.{Symbols}
use Rattle.su_session.specs.Commands.{IsRead}
use Rattle.su_session.proofs.commands.read.Goals as goal

pub returns-in-Ok : goal.returns-in-Ok
returns-in-Ok c = IfOk-weaker c.command_of.result (λ command. (text : List ℕ) → Symbols text c.in-Ok.symbols → IsRead text command) (λ command. IsRead c.args.text.now command)
    (λ command h. h c.args.text.now c.in-Ok.ensures.symbols) c.command_of.ensures

pub returns-in-Err-Syntax : goal.returns-in-Err-Syntax
returns-in-Err-Syntax c =
    let none = c.in-Err-Syntax.ensures.syntax (ap Err c.in-Err-Syntax.field-0-is) in
    inr ((λ is. none is.0 is.1), inl none)
