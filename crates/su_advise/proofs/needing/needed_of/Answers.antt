-- The set has exactly the needed attributes below the next, and each adds itself or nothing.
use Rattle.std.proofs.Common.{sym, ◌∙◌, arith}
use Rattle.std.proofs.lemmas.Bool.{true≢false}
use Rattle.su_tableau.proofs.EssentialCells.{set_more, set_same}
use Rattle.su_advise.specs.Keys.{IsNeeded}
use Rattle.su_reduce.proofs.MeetingSets.{empty_in}
use Rattle.su_advise.proofs.needing.needed_of.Goals as goal
use Rattle.su_advise.proofs.needing.needed_of.Goals.{then-is_needed, else-is_needed}

pub loop-a-init : goal.loop-a-init
loop-a-init c = λ b. (λ m. absurd (empty_in c.empty-found.result c.empty-found.ensures b m), λ h. absurd (let l = h.0 in omega (arith, l)))

pub loop-a-preserved : goal.loop-a-preserved
loop-a-preserved c =
    elim c.if-is_needed.branch [
      | then-is_needed w ↦ rw (w.found-is, w.insert-found.ensures) (set_more c.loop-a.found (IsNeeded c.args.fds.now c.args.object) c.loop-a.a (c.is_needed.ensures.0 w.if-is_needed.true) c.loop-a.invariant)
      | else-is_needed w ↦ rw w.found-is (set_same c.loop-a.found (IsNeeded c.args.fds.now c.args.object) c.loop-a.a (λ t. true≢false (sym (c.is_needed.ensures.1 t) ∙ w.if-is_needed.false)) c.loop-a.invariant)
    ]

pub returns : goal.returns
returns c = λ a. (λ one. ((c.loop-a.invariant a).0 one).1, λ is. (c.loop-a.invariant a).1 (let low = c.requires a is.0 in omega (arith, low), is))
