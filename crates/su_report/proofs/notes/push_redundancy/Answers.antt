-- The line says whether the dependency is one of those that may be dropped.
use Rattle.std.proofs.Common.{◌++◌, ◌∙◌, ap, refl}
use Rattle.std.proofs.lemmas.Result.{on_ok_weaker}
use Rattle.su_state.specs.Breaches.{fd_at}
use Rattle.su_report.specs.DependencyLines.{redundant_lines}
use Rattle.su_report.proofs.notes.push_redundancy.Goals as goal

pub returns : goal.returns
returns c =
    let may_go = c.is_in-may_go.result in
    let i = c.args.i in
    let tells = c.is_in-may_go.ensures in
    on_ok_weaker c.push_redundant.result
    (λ e. (redundant_lines c.args.schema.now may_go (fd_at c.args.schema.now i), e ∙ ap (λ f. c.args.out.now.items ++ redundant_lines c.args.schema.now may_go f) c.fd_at.ensures, (may_go, (λ h. (c.requires.members i).0 (tells.0 h), λ is. tells.1 ((c.requires.members i).1 is)), refl)))
    c.push_redundant.ensures
