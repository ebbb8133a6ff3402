-- The lines are those of exactly the dependencies that were found.
use Rattle.std.proofs.Common.{◌≡◌, ◌++◌, ◌∙◌, List, ℕ, not, flat_map, ap, arith}
use Rattle.std.proofs.lemmas.List.{take_all}
use Rattle.su_advise.specs.Lying.{IsKeptNowhere}
use Rattle.su_state.specs.Breaches.{fd_at}
use Rattle.su_report.specs.DependencyLines.{nowhere_lines}
use Rattle.su_report.proofs.Texts.{flat_item}
use Rattle.su_report.proofs.Told.{faults_told}
use Rattle.su_report.proofs.loose_ends.push_all_nowhere.Goals as goal

pub loop-i-preserved : goal.loop-i-preserved
loop-i-preserved c =
    let schema = c.args.schema.now in
    flat_item (λ i. nowhere_lines schema (fd_at schema i)) c.as_slice-i-items.result.now c.loop-i.i-index _ c.args.out.now.items c.loop-i.out.items c.push_nowhere.new.out.items c.loop-i-test.true c.loop-i.invariant
    (c.in_ok-push_nowhere.ensures ∙ ap (λ f. c.loop-i.out.items ++ nowhere_lines schema f) c.fd_at.ensures)

pub returns : goal.returns
returns c =
    let schema = c.args.schema.now in
    let line : ℕ → List ℕ = λ i. nowhere_lines schema (fd_at schema i) in
    let items = c.as_slice-i-items.result.now in
    let told : c.loop-i.out.items ≡ c.args.out.now.items ++ flat_map line items =
    c.loop-i.invariant ∙ ap (λ is. c.args.out.now.items ++ flat_map line is) (take_all c.loop-i.i-index items (let t = c.loop-i-test.false in omega arith)) in
    faults_told (IsKeptNowhere schema.fds c.args.objects.now) line c.in_ok-found.found c.args.out.now.items c.loop-i.out.items (rw c.fds.ensures at c.in_ok-found.ensures) (rw c.as_slice-i-items.ensures at told) _ (ap not c.is_empty.ensures)
