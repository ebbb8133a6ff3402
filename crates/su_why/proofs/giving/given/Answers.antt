-- The part with the symbols as outputs fits the tables, and puts out what they are given.
use Rattle.std.proofs.Common.{List, sym, ap, subst, ◌∙◌}
use Rattle.std.specs.Prelude.{MatchOption}
use Rattle.su_rel.specs.MoreThan.{AreMoreThan}
use Rattle.su_tableau.specs.declared.symbols.Sym.{Sym}
use Rattle.su_exec.specs.declared.tasks.Task.{Task}
use Rattle.su_exec.specs.Tasks.{IsTask}
use Rattle.su_exec.specs.Outputs.{IsOutput, AreOutputs}
use Rattle.su_why.proofs.GivenParts.{giving_fits, found_given}
use Rattle.su_why.proofs.giving.given.Goals as goal

pub outputs_of-requires-clause-task : goal.outputs_of-requires-clause-task
outputs_of-requires-clause-task c =
    let part = c.in_ok-part.part in
    let is = c.with_outputs-giving.ensures ∙ ap (λ (xs : List Sym). record { rows = part.rows; outputs = xs; comparisons = part.comparisons }) c.in_ok-outputs.ensures in
    subst (IsTask c.args.tables.now) (sym is) (giving_fits c.args.tables.now c.args.task.now c.args.fixed.now c.args.set.now part c.in_ok-part.ensures c.args.symbols.now c.requires.task c.requires.held)

pub returns : goal.returns
returns c =
    let part = c.in_ok-part.part in
    let is = c.with_outputs-giving.ensures ∙ ap (λ (xs : List Sym). record { rows = part.rows; outputs = xs; comparisons = part.comparisons }) c.in_ok-outputs.ensures in
    found_given c.args.tables.now c.args.task.now c.args.fixed.now c.args.set.now part c.in_ok-part.ensures c.args.symbols.now c.args.cap c.in_ok-found.found
    (subst (λ (task : Task). MatchOption c.in_ok-found.found (AreMoreThan c.args.cap (IsOutput c.args.tables.now task)) (AreOutputs c.args.tables.now task)) is c.in_ok-found.ensures)
