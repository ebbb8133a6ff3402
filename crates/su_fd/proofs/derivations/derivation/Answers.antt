-- What derives the rest derives the whole after the dependencies used so far; each of these adds a right side, so that fewer are left.
use Rattle.std.proofs.Common.{[], ◌∷◌, append_assoc, append-nil, sym}
use Rattle.su_fd.proofs.Growth.{step_smaller, step_derived}
use Rattle.su_fd.proofs.derivations.derivation.Goals as goal

pub loop-i-smaller : goal.loop-i-smaller
loop-i-smaller c = step_smaller _ _ _ _ _ (sym c.in-Some.ensures) c.union-reached.ensures

pub loop-i-preserved : goal.loop-i-preserved
loop-i-preserved c rest derived =
    rw (c.in_ok-push.ensures.ok, append_assoc)
    (c.loop-i.invariant (c.in-Some.i ∷ rest) (step_derived _ _ _ _ _ (sym c.in-Some.ensures) c.union-reached.ensures rest derived))

pub returns : goal.returns
returns c = rw append-nil at (c.loop-i.invariant [] (sym c.in_default.ensures))
