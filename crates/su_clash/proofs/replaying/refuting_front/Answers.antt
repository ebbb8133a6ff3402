-- The names after the steps so far stand for them, so the next step follows where these names say so.
use Rattle.std.proofs.Common.{◌≡◌, ◌∙◌, ◌+◌, ◌<◌, List, length, get_or, sym, subst, arith}
use Rattle.std.proofs.lemmas.Bool.{false≢true}
use Rattle.std.proofs.lemmas.List.{get_or_default}
use Rattle.std.proofs.lemmas.Option.{MatchOption-at_some, MatchOption-at_none}
use Rattle.su_clash.specs.declared.renaming.Rename.{Rename}
use Rattle.su_clash.specs.declared.steps.Step.{Step}
use Rattle.su_clash.specs.inside.Renames.{FollowsBy, StepIsTaken, Makes, Meet}
use Rattle.su_clash.proofs.Replayed.{none, FollowBelow, one_more, renames_more, front_refutes, refused}
use Rattle.su_clash.proofs.replaying.refuting_front.Goals as goal

pub returns-then-not-follows : goal.returns-then-not-follows
returns-then-not-follows c =
    let fds = c.args.fds.now in
    let rows = c.args.rows.now in
    let steps = c.args.steps.now in
    let n = c.loop-i.i in
    let low : n < length steps = omega arith in
    let s : Step = get_or steps n none in
    refused fds rows steps n s (λ d. get_or_default steps n d none low) low c.loop-i.renames c.loop-i.invariant.are
    (λ f. false≢true (sym c.if-not-follows.true ∙ c.follows.ensures.1 (subst (λ (rs : List Rename). FollowsBy fds rows rs s) (sym c.as_slice.ensures) f)))

pub returns-in-Some : goal.returns-in-Some
returns-in-Some c =
    let fds = c.args.fds.now in
    let rows = c.args.rows.now in
    let steps = c.args.steps.now in
    let n = c.loop-i.i in
    let low : n < length steps = omega arith in
    let s : Step = get_or steps n none in
    let is : (d : Step) → get_or steps n d ≡ s = λ d. get_or_default steps n d none low in
    let old = c.loop-i.renames in
    let follows : FollowsBy fds rows old s = subst (λ (rs : List Rename). FollowsBy fds rows rs s) c.as_slice.ensures (c.follows.ensures.0 c.if-not-follows.false) in
    let below : FollowBelow fds rows steps (n + 1) = one_more fds rows steps n s is low old c.loop-i.invariant.are c.loop-i.invariant.below follows in
    front_refutes fds rows steps n s is low old c.loop-i.invariant.are c.in-Some.pair below
    (MatchOption-at_some (Makes (StepIsTaken fds rows s) old c.take_step.new.renames) (Meet (StepIsTaken fds rows s) old) c.in-Some.pair c.in-Some.is c.in_ok-pair.ensures)

pub loop-i-preserved : goal.loop-i-preserved
loop-i-preserved c =
    let fds = c.args.fds.now in
    let rows = c.args.rows.now in
    let steps = c.args.steps.now in
    let n = c.loop-i.i in
    let low : n < length steps = omega arith in
    let s : Step = get_or steps n none in
    let is : (d : Step) → get_or steps n d ≡ s = λ d. get_or_default steps n d none low in
    let old = c.loop-i.renames in
    let follows : FollowsBy fds rows old s = subst (λ (rs : List Rename). FollowsBy fds rows rs s) c.as_slice.ensures (c.follows.ensures.0 c.if-not-follows.false) in
    record {
      below = one_more fds rows steps n s is low old c.loop-i.invariant.are c.loop-i.invariant.below follows;
      are =
          renames_more fds rows steps n s is low old c.loop-i.invariant.are c.take_step.new.renames
          (MatchOption-at_none (Makes (StepIsTaken fds rows s) old c.take_step.new.renames) (Meet (StepIsTaken fds rows s) old) c.in_default.is c.in_ok-pair.ensures);
    }
