-- The command was read from some text, and what is replied to it is replied to that text.
use Rattle.std.proofs.Common.{option_map, subst}
use Rattle.std.proofs.lemmas.Result.{IfOk-weaker}
use Rattle.su_session.specs.declared.commands.Command.{Command}
use Rattle.su_session.specs.Commands.{IsRead}
use Rattle.su_session.specs.Statements.{Answers}
use Rattle.su_effects.specs.Effects.{IsEffectOf}
use Rattle.su_effects.specs.inside.Statements.{MakesWhere}
use Rattle.su_effects.proofs.Replies.{definition_effect, refused_effect, statement_effect}
use Rattle.su_effects.proofs.finding.effect_of.Goals as goal

pub returns-in-Definition : goal.returns-in-Definition
returns-in-Definition c = λ reply new replied.
    let text = c.requires.0 in
    definition_effect c.args.db.now new text (option_map (λ bytes. bytes.now) c.args.file) reply c.in-Definition.field-0 (subst (λ (k : Command). IsRead text k) c.in-Definition.is c.requires.1) (replied text c.requires.1)

pub returns-in-Statement : goal.returns-in-Statement
returns-in-Statement c =
    let text = c.requires.0 in
    let file = option_map (λ bytes. bytes.now) c.args.file in
    let st = c.in-Statement.statement in
    IfOk-weaker c.of_statement.result (λ effect. MakesWhere effect c.args.db.now (λ reply new. Answers c.args.db.now c.content.result.now st reply new)) (λ effect. IsEffectOf c.args.db.now c.args.command.now file effect)
    (λ effect makes. λ reply new replied.
    statement_effect c.args.db.now new text file reply st effect (subst (λ (k : Command). IsRead text k) c.in-Statement.is c.requires.1) (rw c.content.ensures at makes) (replied text c.requires.1))
    c.of_statement.ensures

pub returns-in-Refused : goal.returns-in-Refused
returns-in-Refused c = λ reply new replied.
    let text = c.requires.0 in
    refused_effect c.args.db.now new text (option_map (λ bytes. bytes.now) c.args.file) reply c.in-Refused.field-0 (subst (λ (k : Command). IsRead text k) c.in-Refused.is c.requires.1) (replied text c.requires.1)
