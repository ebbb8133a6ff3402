-- The comparisons of the set that are in the rows among the first ones; the next is copied where it counts.
use Rattle.std.proofs.Common.{◌≡◌, ◌+◌, ℕ, length, Contains, Some, refl, sym, ap, subst, ◌∙◌, arith}
use Rattle.std.proofs.lemmas.Option.{same_Some}
use Rattle.su_exec.specs.declared.tasks.Compared.{Compared}
use Rattle.su_why.specs.inside.Parts.{AreIn}
use Rattle.su_why.proofs.Gathered.{gathered_none, gathered_in, gathered_out}
use Rattle.su_why.proofs.PartTasks.{comparisons_are}
use Rattle.su_why.proofs.parts.comparisons_of.Goals as goal

pub loop-i-init : goal.loop-i-init
loop-i-init c = gathered_none (λ i (d : Compared). Contains c.args.set.now (length c.args.task.now.rows + i) × AreIn c.args.rows.now d) c.args.task.now.comparisons _ c.new-found.ensures

pub loop-i-preserved-then-not-counts : goal.loop-i-preserved-then-not-counts
loop-i-preserved-then-not-counts c =
    gathered_out (λ i (d : Compared). Contains c.args.set.now (length c.args.task.now.rows + i) × AreIn c.args.rows.now d) c.args.task.now.comparisons c.loop-i.i c.loop-i.found _ c.loop-i.invariant
    (λ x is has.
    let same : x ≡ c.get-own.result.now = same_Some x c.get-own.result.now (sym is ∙ c.get-own.ensures) in
    let there = subst (λ (b : ℕ). Contains c.args.set.now (b + c.loop-i.i)) (sym c.len-behind.ensures) has.0 in
    let t = c.counts.ensures.1 (there, subst (AreIn c.args.rows.now) same has.1) in
    let f = c.if-not-counts.true in
    absurd (grind (arith, t, f)))
    refl

pub loop-i-preserved : goal.loop-i-preserved
loop-i-preserved c =
    let both = c.counts.ensures.0 (let f = c.if-not-counts.false in grind (arith, f)) in
    gathered_in (λ i (d : Compared). Contains c.args.set.now (length c.args.task.now.rows + i) × AreIn c.args.rows.now d) c.args.task.now.comparisons c.loop-i.i c.loop-i.found _ c.in_ok-compared.compared c.loop-i.invariant
    (c.get-own.ensures ∙ ap Some (sym c.in_ok-compared.ensures))
    (subst (λ (b : ℕ). Contains c.args.set.now (b + c.loop-i.i)) c.len-behind.ensures both.0, subst (AreIn c.args.rows.now) (sym c.in_ok-compared.ensures) both.1)
    c.in_ok-push.ensures.ok

pub returns : goal.returns
returns c = comparisons_are c.args.task.now c.args.set.now c.args.rows.now c.loop-i.i c.loop-i.found (omega arith) c.loop-i.invariant
