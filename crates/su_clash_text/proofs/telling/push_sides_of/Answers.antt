-- The dependency that is read is the step's.
use Rattle.std.proofs.Common.{◌≡◌, ◌∙◌, ◌++◌, ap}
use Rattle.std.proofs.lemmas.List.{get_or_default}
use Rattle.su_fd.specs.declared.dependencies.Fd.{Fd}
use Rattle.su_schema.specs.SchemaValue.{SchemaValue}
use Rattle.std.proofs.Common.{List, get_or}
use Rattle.su_clash.specs.Derivations.{fd_of}
use Rattle.su_clash_text.specs.Lines.{sides_text}
use Rattle.su_clash_text.proofs.telling.push_sides_of.Goals as goal

pub returns : goal.returns
returns c =
    let db = c.args.db.now in
    let s = c.args.step.now in
    let old = c.args.out.now.items in
    let d = c.index-fds-step.result in
    let fds : c.fds.result.now ≡ db.schema.fds = c.fds.ensures ∙ ap (λ (q : SchemaValue). q.fds) c.schema-2.ensures in
    let fd : d ≡ fd_of db.schema.fds s = c.index-fds-step.is ∙ ap (λ (xs : List Fd). get_or xs s.fd d) fds ∙ get_or_default db.schema.fds s.fd d _ c.requires in
    c.in_ok-push_sides.ensures ∙ ap (λ (q : SchemaValue). old ++ sides_text q d) c.schema.ensures ∙ ap (λ (f : Fd). old ++ sides_text db.schema f) fd
