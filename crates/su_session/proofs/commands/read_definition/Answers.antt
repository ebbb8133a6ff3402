-- What spells these symbols begins a definition, and has a form if they have.
use Rattle.std.proofs.Common.{Err, inl, refl, ap}
use Rattle.su_session.proofs.Texts.{no_form}
use Rattle.su_session.proofs.commands.read_definition.Goals as goal

pub returns-in-Ok : goal.returns-in-Ok
returns-in-Ok c text spelled = ((c.args.symbols, spelled, c.requires), (c.args.symbols, spelled, c.in-Ok.ensures.found))

pub returns-in-Err-Syntax : goal.returns-in-Err-Syntax
returns-in-Err-Syntax c text spelled = inl ((c.args.symbols, spelled, c.requires), refl, no_form text c.args.symbols spelled (c.in-Err-Syntax.ensures.syntax (ap Err c.in-Err-Syntax.field-0-is)))
