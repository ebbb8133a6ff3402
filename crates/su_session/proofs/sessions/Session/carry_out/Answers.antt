-- A command that was read of a text is a definition, a statement or a refusal of that text, and what each of them replies is the reply to any text that is read as this command.
use Rattle.std.proofs.Common.{List, ℕ, IfOk, option_map, ap, subst, ◌∙◌}
use Rattle.std.proofs.lemmas.Result.{IfOk-weaker}
use Rattle.su_state.specs.DatabaseValue.{DatabaseValue}
use Rattle.su_show.specs.declared.statement_refusal.Refusal.TheVariants.{Query}
use Rattle.su_session.specs.Commands.{IsRead}
use Rattle.su_session.specs.inside.Tasks.{of_task}
use Rattle.su_session.specs.Reply.{AddsDefinition, Replied}
use Rattle.su_session.specs.Statements.{Answers}
use Rattle.su_session.specs.Outcomes.{Refuses}
use Rattle.su_session.proofs.Asked.{ready, replied_definition, replied_statement, replied_refusal}
use Rattle.su_session.proofs.sessions.Session.carry_out.Goals as goal

pub add-requires : goal.add-requires
add-requires g c = (subst (IsRead c.requires.read.0) (c.in-Ok-Definition.ensures.task ∙ ap of_task c.in-Ok-Definition.field-0-is) c.requires.read.1).1.2.1

pub returns-in-Ok-Definition-clause-replied : goal.returns-in-Ok-Definition-clause-replied
returns-in-Ok-Definition-clause-replied g c =
    let old = c.args.self.now in
    let new = c.add.new.self in
    let d = c.in-Ok-Definition.definition in
    let file = option_map (λ bytes. bytes.now) c.args.file in
    IfOk-weaker c.add.result (λ reply. AddsDefinition old d reply new) (λ reply. (text : List ℕ) → IsRead text c.args.command → Replied old text file reply new)
    (λ reply h text is. replied_definition old new text file reply d (subst (IsRead text) (c.in-Ok-Definition.ensures.task ∙ ap of_task c.in-Ok-Definition.field-0-is) is) h) c.add.ensures.replied

pub answer-requires-clause-ready : goal.answer-requires-clause-ready
answer-requires-clause-ready g c = λ lives outlives.
    let is = subst (IsRead c.requires.read.0) (c.in-Ok-Statement.ensures.task ∙ ap of_task c.in-Ok-Statement.field-0-is) c.requires.read.1 in
    ready c.requires.read.0 c.in-Ok-Statement.statement is.1

pub returns-in-Ok-Statement-clause-replied : goal.returns-in-Ok-Statement-clause-replied
returns-in-Ok-Statement-clause-replied g c =
    let old = c.args.self.now in
    let new = c.answer.new.self in
    let st = c.in-Ok-Statement.statement in
    let file = option_map (λ bytes. bytes.now) c.args.file in
    IfOk-weaker c.answer.result (λ reply. Answers old c.content.result.now st reply new) (λ reply. (text : List ℕ) → IsRead text c.args.command → Replied old text file reply new)
    (λ reply h text is. replied_statement old new text file reply st (subst (IsRead text) (c.in-Ok-Statement.ensures.task ∙ ap of_task c.in-Ok-Statement.field-0-is) is) (rw c.content.ensures at h)) c.answer.ensures.replied

pub returns-in-Err-clause-replied : goal.returns-in-Err-clause-replied
returns-in-Err-clause-replied g c =
    let old : DatabaseValue = c.self.inside.db in
    let fault = c.in-Err.fault in
    let file = option_map (λ bytes. bytes.now) c.args.file in
    subst (λ (db : DatabaseValue). IfOk c.refused.result (λ reply. (text : List ℕ) → IsRead text c.args.command → Replied db text file reply db)) c.self.view_is
    (IfOk-weaker c.refused.result (λ reply. Refuses old (Query fault) reply old) (λ reply. (text : List ℕ) → IsRead text c.args.command → Replied old text file reply old)
    (λ reply h text is. replied_refusal old old text file reply fault (subst (IsRead text) c.in-Err.ensures.refused is) h) c.refused.ensures)
