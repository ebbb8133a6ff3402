-- Each end behind a known relation is at its own step: a file at fault, an insert of some record refused, or all rows loaded; the columns that the file is read by are those of the relation found.
use Rattle.std.proofs.Common.{Err, inl, inr, sym, ◌∙◌}
use Rattle.std.proofs.lemmas.Result.{IfOk-weaker}
use Rattle.su_state.specs.declared.faults.LoadEnd.TheVariants.{Refused}
use Rattle.su_state.specs.Loads.{Loads}
use Rattle.su_show.specs.declared.statement_refusal.Refusal.TheVariants.{Csv, Record}
use Rattle.su_show.proofs.RefusalLines.{csv_told}
use Rattle.su_session.specs.Outcomes.{Refuses}
use Rattle.su_session.specs.RowStatements.{InRelation, LoadsRows}
use Rattle.su_session.proofs.ChangeReplies.{refused_file, refused_load, loaded_rows, same_schema}
use Rattle.su_session.proofs.changes.load.Goals as goal

pub returns-in-Err-clause-replied : goal.returns-in-Err-clause-replied
returns-in-Err-clause-replied c =
    let old = c.args.db.now in
    let r = c.in-Some.relation in
    let fault = c.in-Err.fault in
    IfOk-weaker c.refused.result (λ reply. Refuses old (Csv r fault) reply old) (λ reply. InRelation old c.args.name.now reply old (LoadsRows old c.args.file.now reply old))
    (λ reply h. refused_file old c.args.name.now reply r (sym c.known.ensures ∙ c.in-Some.is) c.args.file.now c.columns.result.now (rw c.schema.ensures at c.columns.ensures.at) fault (elim c.in-Err.ensures.fault [ inl memory ↦ absurd (csv_told old.schema reply.bytes r fault h.line memory) | inr is ↦ is ]) h)
    c.refused.ensures

pub returns-in-Ok-load-clause-replied : goal.returns-in-Ok-load-clause-replied
returns-in-Ok-load-clause-replied c =
    let old = c.args.db.now in
    let r = c.in-Some.relation in
    loaded_rows old c.args.name.now c.accepted.result r (sym c.known.ensures ∙ c.in-Some.is) c.args.file.now c.columns.result.now (rw c.schema.ensures at c.columns.ensures.at) c.load.new.self c.in-Ok.rows c.in-Ok.ensures.rows c.in-Ok-load.count c.len-records.result c.len-records.ensures c.in-Ok-load.ensures.done (rw c.loaded.ensures at c.accepted.ensures)

pub returns-in-Ok-load-clause-schema : goal.returns-in-Ok-load-clause-schema
returns-in-Ok-load-clause-schema c = same_schema c.args.db.now c.load.new.self c.in-Some.relation c.in-Ok.rows c.in-Ok-load.count c.in-Ok-load.ensures.done

pub returns-in-Err-Refused-clause-replied : goal.returns-in-Err-Refused-clause-replied
returns-in-Err-Refused-clause-replied c =
    let old = c.args.db.now in
    let r = c.in-Some.relation in
    let new = c.load.new.self in
    let fault = c.in-Err-Refused.fault in
    let refused : Loads old r c.in-Ok.rows (Err (Refused fault)) new = elim (rw c.in-Err-Refused.field-0-is at c.in-Err-Refused.ensures.refused) [ inl memory ↦ absurd (cc) | inr h ↦ h ] in
    IfOk-weaker c.refused-in-Err-Refused.result (λ reply. Refuses new (Record fault) reply new) (λ reply. InRelation old c.args.name.now reply new (LoadsRows old c.args.file.now reply new))
    (λ reply h. refused_load old c.args.name.now reply r (sym c.known.ensures ∙ c.in-Some.is) c.args.file.now c.columns.result.now (rw c.schema.ensures at c.columns.ensures.at) new c.in-Ok.rows c.in-Ok.ensures.rows fault refused h)
    c.refused-in-Err-Refused.ensures
