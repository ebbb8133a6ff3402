-- What was found last is the last ear so far; an object that is one takes its place.
use Rattle.std.proofs.Common.{sym, ◌∙◌, arith}
use Rattle.std.proofs.lemmas.Bool.{true≢false}
use Rattle.su_advise.proofs.EarSteps.{last_none, last_in, last_out, last_all}
use Rattle.su_advise.proofs.cycles.last_ear.Goals as goal
use Rattle.su_advise.proofs.cycles.last_ear.Goals.{then-is_ear, else-is_ear}

pub loop-o-init : goal.loop-o-init
loop-o-init c = last_none _ _

pub loop-o-preserved : goal.loop-o-preserved
loop-o-preserved c =
    elim c.if-is_ear.branch [
      | then-is_ear w ↦ rw w.found-is (last_in _ _ _ (c.is_ear.ensures.0 w.if-is_ear.true))
      | else-is_ear w ↦ rw w.found-is (last_out _ _ _ _ (λ ear. true≢false (sym (c.is_ear.ensures.1 ear) ∙ w.if-is_ear.false)) c.loop-o.invariant)
    ]

pub returns : goal.returns
returns c = last_all _ _ _ _ c.requires.within (omega arith) c.loop-o.invariant
