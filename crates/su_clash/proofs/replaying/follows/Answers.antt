-- A step that names a dependency and two rows follows where these agree on its left side.
use Rattle.std.proofs.Common.{◌≡◌, ◌<◌, List, length, get_or, arith}
use Rattle.std.proofs.lemmas.List.{get_or_default}
use Rattle.su_fd.specs.declared.dependencies.Fd.{Fd}
use Rattle.su_tableau.specs.declared.symbols.Sym.{Sym}
use Rattle.su_chase.specs.Chase.{SameLabels}
use Rattle.su_clash.specs.Derivations.{fd_of}
use Rattle.su_clash.specs.inside.Renames.{renamed}
use Rattle.su_clash.proofs.StepRows.{row_read, at_step, from_step}
use Rattle.su_clash.proofs.replaying.follows.Goals as goal

pub returns : goal.returns
returns c =
    let fds = c.args.fds.now in
    let rows = c.args.rows.now in
    let s = c.args.step.now in
    let fd_low : s.fd < length fds = omega arith in
    let first_low : s.first < length rows = omega arith in
    let second_low : s.second < length rows = omega arith in
    let f : Fd = get_or fds s.fd c.index-fds-step.result in
    let f_is : f ≡ fd_of fds s = get_or_default fds s.fd c.index-fds-step.result _ fd_low in
    let first_is = row_read rows s.first c.index-rows-step.result c.as_slice-first.result.now first_low c.index-rows-step.is c.as_slice-first.ensures in
    let second_is = row_read rows s.second c.index-rows-step-2.result c.as_slice-second.result.now second_low c.index-rows-step-2.is c.as_slice-second.ensures in
    let P : Fd → List Sym → List Sym → Type 0 = λ f r q. SameLabels (renamed c.args.renames.now) f.left r q in (
      λ t. record {
        named = record { fd = fd_low; first = first_low; second = second_low };
        left = at_step fds rows s f c.as_slice-first.result.now c.as_slice-second.result.now f_is first_is second_is P (c.agree.ensures.0 t);
      },
      λ given. c.agree.ensures.1 (from_step fds rows s f c.as_slice-first.result.now c.as_slice-second.result.now f_is first_is second_is P given.left),
    )
