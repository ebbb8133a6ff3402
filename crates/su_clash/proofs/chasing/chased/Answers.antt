-- Each step that breaks a dependency is taken, so fewer are left; where none breaks any, the names are a closed partition that keeps constants apart.
use Rattle.std.proofs.Common.{List, sym, subst}
use Rattle.std.proofs.lemmas.Option.{MatchOption-at_some, MatchOption-at_none}
use Rattle.su_clash.specs.declared.renaming.Rename.{Rename}
use Rattle.su_clash.specs.declared.steps.Step.{Step}
use Rattle.su_clash.specs.Derivations.{IsDerivation}
use Rattle.su_clash.specs.inside.Renames.{BreaksBy, NoneBreaks, StepIsTaken, Makes, Meet, AreRenamesOf, RefutesBy}
use Rattle.su_clash.proofs.Closed.{consistent}
use Rattle.su_clash.proofs.Kept.{fewer_open}
use Rattle.su_clash.proofs.Replayed.{derivation_more, taken, meets}
use Rattle.su_clash.proofs.chasing.chased.Goals as goal

pub returns-in-Some-2 : goal.returns-in-Some-2
returns-in-Some-2 c =
    let fds = c.args.fds.now in
    let rows = c.args.rows.now in
    let steps = c.loop-step.steps in
    let old = c.loop-step.renames in
    let s = c.in-Some.step in
    let are = c.loop-step.invariant.are in
    let breaks : BreaksBy fds rows old s = subst (λ (rs : List Rename). BreaksBy fds rows rs s) c.as_slice.ensures c.in-Some.ensures in
    let meet = MatchOption-at_some (Makes (StepIsTaken fds rows s) old c.take_step.new.renames) (Meet (StepIsTaken fds rows s) old) c.in-Some-2.pair c.in-Some-2.is c.in_ok-pair.ensures in
    subst (λ (all : List Step). RefutesBy fds rows all c.in-Some-2.pair) (sym c.in_ok-push.ensures.ok)
    (record { derivation = derivation_more fds rows steps old are s c.loop-step.invariant.derivation breaks.follows; clash = meets fds rows steps old are s c.in-Some-2.pair meet })

pub loop-step-smaller : goal.loop-step-smaller
loop-step-smaller c =
    let fds = c.args.fds.now in
    let rows = c.args.rows.now in
    let old = c.loop-step.renames in
    let s = c.in-Some.step in
    let breaks : BreaksBy fds rows old s = subst (λ (rs : List Rename). BreaksBy fds rows rs s) c.as_slice.ensures c.in-Some.ensures in
    let makes = MatchOption-at_none (Makes (StepIsTaken fds rows s) old c.take_step.new.renames) (Meet (StepIsTaken fds rows s) old) c.in_default-2.is c.in_ok-pair.ensures in
    fewer_open fds rows c.requires old c.take_step.new.renames s breaks makes

pub loop-step-preserved : goal.loop-step-preserved
loop-step-preserved c =
    let fds = c.args.fds.now in
    let rows = c.args.rows.now in
    let steps = c.loop-step.steps in
    let old = c.loop-step.renames in
    let new = c.take_step.new.renames in
    let s = c.in-Some.step in
    let are = c.loop-step.invariant.are in
    let breaks : BreaksBy fds rows old s = subst (λ (rs : List Rename). BreaksBy fds rows rs s) c.as_slice.ensures c.in-Some.ensures in
    let makes = MatchOption-at_none (Makes (StepIsTaken fds rows s) old new) (Meet (StepIsTaken fds rows s) old) c.in_default-2.is c.in_ok-pair.ensures in
    record {
      derivation = subst (IsDerivation fds rows) (sym c.in_ok-push.ensures.ok) (derivation_more fds rows steps old are s c.loop-step.invariant.derivation breaks.follows);
      are = subst (λ (all : List Step). AreRenamesOf fds rows all new) (sym c.in_ok-push.ensures.ok) (taken fds rows steps old are s new makes);
    }

pub returns : goal.returns
returns c =
    let fds = c.args.fds.now in
    let rows = c.args.rows.now in
    let none : NoneBreaks fds rows c.loop-step.renames = subst (NoneBreaks fds rows) c.as_slice.ensures c.in_default.ensures in
    consistent fds rows c.loop-step.renames none c.loop-step.invariant.are.names
