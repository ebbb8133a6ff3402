-- A definition fails by the schema or by the stored rows, or is done; where it isn't done the database is what it was, so its maximal objects still are.
use Rattle.std.proofs.Common.{Ok, IfOk, inl, inr, sym, subst}
use Rattle.std.proofs.lemmas.Result.{IfOk-weaker}
use Rattle.su_maxobj.specs.MaximalObjects.{AreMaximalObjects}
use Rattle.su_state.specs.declared.faults.DefineFault.TheVariants.{Schema}
use Rattle.su_state.specs.DatabaseValue.{DatabaseValue}
use Rattle.su_state.specs.Definitions.{Defines}
use Rattle.su_show.specs.declared.statement_refusal.Refusal.TheVariants.{Define}
use Rattle.su_show.proofs.RefusalLines.{define_told, schema_told}
use Rattle.su_session.specs.Outcomes.{Refuses}
use Rattle.su_session.specs.Reply.{AddsDefinition}
use Rattle.su_session.proofs.DefinitionReplies.{refused_schema, refused_rows}
use Rattle.su_session.proofs.sessions.Session.add.Goals as goal

pub returns-in-Err-clause-replied : goal.returns-in-Err-clause-replied
returns-in-Err-clause-replied c =
    let old : DatabaseValue = c.self.inside.db in
    let d = c.args.definition.now in
    let fault = c.in-Err.fault in
    subst (λ (db : DatabaseValue). IfOk c.refused.result (λ reply. AddsDefinition db d reply db)) c.self.view_is
    (IfOk-weaker c.refused.result (λ reply. Refuses old (Define (Schema fault)) reply old) (λ reply. AddsDefinition old d reply old)
    (λ reply h. refused_schema old old d reply fault (elim (rw c.schema.ensures at c.in-Err.ensures.refused) [ inl memory ↦ absurd (schema_told old.schema reply.bytes fault h.line memory) | inr fails ↦ fails ]) h)
    c.refused.ensures)

pub invariant_of-self-in-Err-adopt : goal.invariant_of-self-in-Err-adopt
invariant_of-self-in-Err-adopt c = (subst (λ (db : DatabaseValue). AreMaximalObjects db.schema c.self.inside.maximal) (sym c.in-Err-adopt.ensures.unchanged) c.self.invariant.0, tt)

pub returns-in-Err-adopt-clause-replied : goal.returns-in-Err-adopt-clause-replied
returns-in-Err-adopt-clause-replied c =
    let old : DatabaseValue = c.self.inside.db in
    let new : DatabaseValue = c.adopt.new.self in
    let d = c.args.definition.now in
    let fault = c.in-Err-adopt.fault in
    subst (λ (db : DatabaseValue). IfOk c.refused-in-Err-adopt.result (λ reply. AddsDefinition db d reply new)) c.self.view_is
    (IfOk-weaker c.refused-in-Err-adopt.result (λ reply. Refuses new (Define fault) reply new) (λ reply. AddsDefinition old d reply new)
    (λ reply h. refused_rows old new d reply fault (elim c.in-Err-adopt.ensures.refused [ inl memory ↦ absurd (define_told new.schema reply.bytes fault h.line memory) | inr defines ↦ defines ]) h)
    c.refused-in-Err-adopt.ensures)

pub returns-in-Ok-adopt-clause-replied : goal.returns-in-Ok-adopt-clause-replied
returns-in-Ok-adopt-clause-replied c =
    let d = c.args.definition.now in
    let done = c.in-Ok-adopt.field-0 in
    (Ok done, subst (λ (db : DatabaseValue). Defines db d (Ok done) c.adopt.new.self) c.self.view_is c.in-Ok-adopt.ensures.done, rw c.defined.ensures at c.accepted.ensures)
