-- Those in the rows among the first comparisons; the next is copied where it is in the rows.
use Rattle.std.proofs.Common.{◌≡◌, Some, refl, sym, ap, subst, ◌∙◌, arith}
use Rattle.std.proofs.lemmas.Option.{same_Some}
use Rattle.su_exec.specs.declared.tasks.Compared.{Compared}
use Rattle.su_why.specs.inside.Parts.{AreIn}
use Rattle.su_why.proofs.Gathered.{gathered_none, gathered_in, gathered_out}
use Rattle.su_why.proofs.PartTasks.{those_are}
use Rattle.su_why.proofs.parts.those_in.Goals as goal

pub loop-i-init : goal.loop-i-init
loop-i-init c = gathered_none (λ i (d : Compared). AreIn c.args.rows.now d) c.args.comparisons.now _ c.new-found.ensures

pub loop-i-preserved-then-not-are_in : goal.loop-i-preserved-then-not-are_in
loop-i-preserved-then-not-are_in c =
    gathered_out (λ i (d : Compared). AreIn c.args.rows.now d) c.args.comparisons.now c.loop-i.i c.loop-i.found _ c.loop-i.invariant
    (λ x is has.
    let same : x ≡ c.get-own.result.now = same_Some x c.get-own.result.now (sym is ∙ c.get-own.ensures) in
    let t = c.are_in.ensures.1 (subst (AreIn c.args.rows.now) same has) in
    let f = c.if-not-are_in.true in
    absurd (grind (arith, t, f)))
    refl

pub loop-i-preserved : goal.loop-i-preserved
loop-i-preserved c =
    let in' = c.are_in.ensures.0 (let f = c.if-not-are_in.false in grind (arith, f)) in
    gathered_in (λ i (d : Compared). AreIn c.args.rows.now d) c.args.comparisons.now c.loop-i.i c.loop-i.found _ c.in_ok-compared.compared c.loop-i.invariant
    (c.get-own.ensures ∙ ap Some (sym c.in_ok-compared.ensures)) (subst (AreIn c.args.rows.now) (sym c.in_ok-compared.ensures) in') c.in_ok-push.ensures.ok

pub returns : goal.returns
returns c = those_are c.args.comparisons.now c.args.rows.now c.loop-i.i c.loop-i.found (omega arith) c.loop-i.invariant
