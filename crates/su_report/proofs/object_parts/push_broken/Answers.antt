-- The lines are those of exactly the dependencies that were found.
use Rattle.std.proofs.Common.{◌≡◌, ◌++◌, ◌∙◌, List, ℕ, flat_map, ap, subst, arith}
use Rattle.std.specs.Ordering.{nat_cmp}
use Rattle.std.specs.FinSet.{FinSet}
use Rattle.std.proofs.lemmas.List.{take_all}
use Rattle.su_base.specs.Lists.{AreExactly}
use Rattle.su_fd.specs.declared.dependencies.Fd.{Fd}
use Rattle.su_advise.specs.NormalForm.{IsBreaking}
use Rattle.su_state.specs.Breaches.{fd_at}
use Rattle.su_report.specs.DependencyLines.{breaking_lines}
use Rattle.su_report.specs.ObjectParts.{object_at}
use Rattle.su_report.proofs.Texts.{flat_item}
use Rattle.su_report.proofs.Told.{notes_told}
use Rattle.su_report.proofs.object_parts.push_broken.Goals as goal

pub loop-i-preserved : goal.loop-i-preserved
loop-i-preserved c =
    let schema = c.args.schema.now in
    flat_item (λ i. breaking_lines schema c.args.o (fd_at schema i)) c.as_slice-i-items.result.now c.loop-i.i-index _ c.args.out.now.items c.loop-i.out.items c.push_breaking.new.out.items c.loop-i-test.true c.loop-i.invariant
    (c.in_ok-push_breaking.ensures ∙ ap (λ f. c.loop-i.out.items ++ breaking_lines schema c.args.o f) c.fd_at.ensures)

pub returns : goal.returns
returns c =
    let schema = c.args.schema.now in
    let o = c.args.o in
    let found = c.in_ok-found.found in
    let line : ℕ → List ℕ = λ i. breaking_lines schema o (fd_at schema i) in
    let old = c.args.out.now.items in
    let items = c.as_slice-i-items.result.now in
    let told : c.loop-i.out.items ≡ old ++ flat_map line found =
    c.loop-i.invariant ∙ ap (λ is. old ++ flat_map line is) (take_all c.loop-i.i-index items (let t = c.loop-i-test.false in omega arith) ∙ c.as_slice-i-items.ensures) in
    let are : AreExactly (IsBreaking schema.fds (object_at schema o)) found =
    subst (λ (fds : List Fd). AreExactly (IsBreaking fds (object_at schema o)) found) c.fds.ensures (subst (λ (x : FinSet nat_cmp). AreExactly (IsBreaking c.fds.result.now x) found) c.requires c.in_ok-found.ensures) in
    notes_told (IsBreaking schema.fds (object_at schema o)) line found old c.loop-i.out.items are told
