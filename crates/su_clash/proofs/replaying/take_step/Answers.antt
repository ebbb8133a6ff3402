-- The step is taken where its two rows are made equal on its right side.
use Rattle.std.proofs.Common.{◌≡◌, Option, List, get_or}
use Rattle.std.specs.Prelude.{MatchOption, IfOk}
use Rattle.std.proofs.lemmas.List.{get_or_default}
use Rattle.su_fd.specs.declared.dependencies.Fd.{Fd}
use Rattle.su_tableau.specs.declared.symbols.Sym.{Sym}
use Rattle.su_clash.specs.declared.renaming.Pair.{Pair}
use Rattle.su_clash.specs.Derivations.{fd_of}
use Rattle.su_clash.specs.inside.Renames.{RowsAreOne, Makes, Meet}
use Rattle.su_clash.proofs.StepRows.{row_read, at_step}
use Rattle.su_clash.proofs.replaying.take_step.Goals as goal

pub returns : goal.returns
returns c =
    let fds = c.args.fds.now in
    let rows = c.args.rows.now in
    let s = c.args.step.now in
    let old = c.args.renames.now in
    let new = c.take.new.renames in
    let named = c.requires.named in
    let f : Fd = get_or fds s.fd c.index-fds-step.result in
    let f_is : f ≡ fd_of fds s = get_or_default fds s.fd c.index-fds-step.result _ named.fd in
    let first_is = row_read rows s.first c.index-rows-step.result c.as_slice-first.result.now named.first c.index-rows-step.is c.as_slice-first.ensures in
    let second_is = row_read rows s.second c.index-rows-step-2.result c.as_slice-second.result.now named.second c.index-rows-step-2.is c.as_slice-second.ensures in
    let P : Fd → List Sym → List Sym → Type 0 = λ f r q. IfOk c.take.result (λ (met : Option Pair). MatchOption met (Makes (RowsAreOne f.right r q) old new) (Meet (RowsAreOne f.right r q) old)) in
    at_step fds rows s f c.as_slice-first.result.now c.as_slice-second.result.now f_is first_is second_is P c.take.ensures
