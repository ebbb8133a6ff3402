-- A step that follows breaks something where its rows don't agree on its right side.
use Rattle.std.proofs.Common.{◌≡◌, ◌∙◌, not, List, get_or, sym, ap, inl, inr}
use Rattle.std.proofs.lemmas.Bool.{cases_Bool, false≢true}
use Rattle.std.proofs.lemmas.List.{get_or_default}
use Rattle.su_fd.specs.declared.dependencies.Fd.{Fd}
use Rattle.su_tableau.specs.declared.symbols.Sym.{Sym}
use Rattle.su_chase.specs.Chase.{SameLabels}
use Rattle.su_clash.specs.Derivations.{fd_of}
use Rattle.su_clash.specs.inside.Renames.{renamed, FollowsBy}
use Rattle.su_clash.proofs.StepRows.{row_read, at_step, from_step}
use Rattle.su_clash.proofs.replaying.breaks.Goals as goal

pub returns : goal.returns
returns c =
    let fds = c.args.fds.now in
    let rows = c.args.rows.now in
    let s = c.args.step.now in
    let follows : FollowsBy fds rows c.args.renames.now s = c.follows.ensures.0 c.if-not-follows.false in
    let f : Fd = get_or fds s.fd c.index-fds-step.result in
    let f_is : f ≡ fd_of fds s = get_or_default fds s.fd c.index-fds-step.result _ follows.named.fd in
    let first_is = row_read rows s.first c.index-rows-step.result c.as_slice-first.result.now follows.named.first c.index-rows-step.is c.as_slice-first.ensures in
    let second_is = row_read rows s.second c.index-rows-step-2.result c.as_slice-second.result.now follows.named.second c.index-rows-step-2.is c.as_slice-second.ensures in
    let P : Fd → List Sym → List Sym → Type 0 = λ f r q. SameLabels (renamed c.args.renames.now) f.right r q in (
      λ t. record {
        follows = follows;
        broken = λ same.
            false≢true (ap not (sym (c.agree.ensures.1 (from_step fds rows s f c.as_slice-first.result.now c.as_slice-second.result.now f_is first_is second_is P same))) ∙ t);
      },
      λ b.
          elim (cases_Bool c.agree.result) [
            | inl t ↦ absurd (b.broken (at_step fds rows s f c.as_slice-first.result.now c.as_slice-second.result.now f_is first_is second_is P (c.agree.ensures.0 t)))
            | inr f ↦ ap not f
          ],
    )
