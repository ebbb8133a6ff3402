-- The rows are those of the members, and the steps that are left refute them.
use Rattle.std.proofs.Common.{◌≡◌, ◌≤◌, ◌∙◌, List, length, sym, ap, subst}
use Rattle.su_fd.specs.declared.dependencies.Fd.{Fd}
use Rattle.su_schema.specs.SchemaValue.{SchemaValue}
use Rattle.su_chase.specs.Chase.{IsConsistent}
use Rattle.su_clash.specs.declared.steps.Step.{Step}
use Rattle.su_clash.specs.inside.Renames.{HaveOneWidth}
use Rattle.su_clash.proofs.Verdict.{wide, clash_is}
use Rattle.su_clash.proofs.clashing.clash_of.Goals as goal

pub refuted-requires-clause-wide : goal.refuted-requires-clause-wide
refuted-requires-clause-wide c = subst HaveOneWidth (sym c.requires.rows) (wide c.args.db.now c.keeps_its_rules.ensures c.args.members)

pub refuted-requires-clause-inconsistent : goal.refuted-requires-clause-inconsistent
refuted-requires-clause-inconsistent c =
    let fds : c.fds-fds.result.now ≡ c.args.db.now.schema.fds = c.fds-fds.ensures ∙ ap (λ (s : SchemaValue). s.fds) c.schema.ensures in
    subst (λ (f : List Fd). ¬ IsConsistent f c.args.rows.now) (sym fds) c.requires.inconsistent

pub thinned-requires-clause-wide : goal.thinned-requires-clause-wide
thinned-requires-clause-wide c = subst HaveOneWidth (sym c.requires.rows) (wide c.args.db.now c.keeps_its_rules.ensures c.args.members)

pub returns : goal.returns
returns c =
    let db = c.args.db.now in
    let r = c.in_ok-steps.field-0 in
    let fds : c.fds-fds.result.now ≡ db.schema.fds = c.fds-fds.ensures ∙ ap (λ (s : SchemaValue). s.fds) c.schema.ensures in
    clash_is db c.args.members c.fds-fds.result.now fds c.args.rows.now c.requires.rows c.requires.members r c.is_least-fewest.result c.in_ok-steps.ensures.refutation c.in_ok-steps.ensures.needed
    (λ t. subst (λ (steps : List Step). length steps ≤ 1) c.as_slice.ensures (c.is_least-fewest.ensures t))
