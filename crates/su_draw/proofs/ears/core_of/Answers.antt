-- An ear is taken away, and what is left has the same cores; where none is found it is one.
use Rattle.std.proofs.Common.{rules, ◌≡◌, position, Some, None, sym, subst}
use Rattle.su_draw.specs.Ears.{is_ear, IsCoreOf}
use Rattle.su_draw.proofs.Cores.{ear_taken, none_left}
use Rattle.su_draw.proofs.ears.core_of.Goals as goal

pub loop-i-preserved : goal.loop-i-preserved
loop-i-preserved c core rest =
    let edges = c.loop-i.left.items in
    let i = c.in-Some.i in
    let at : position (is_ear c.as_slice.result.now) c.as_slice.result.now ≡ Some i = search rules in
    let found : position (is_ear edges) edges ≡ Some i = subst (λ es. position (is_ear es) es ≡ Some i) c.as_slice.ensures.value at in
    c.loop-i.invariant core (ear_taken edges core i found (subst (λ es. IsCoreOf es core) c.remove.ensures.items rest))

pub returns : goal.returns
returns c =
    let edges = c.loop-i.left.items in
    let at : position (is_ear c.as_slice.result.now) c.as_slice.result.now ≡ None = search rules in
    let none : position (is_ear edges) edges ≡ None = subst (λ es. position (is_ear es) es ≡ None) c.as_slice.ensures.value at in
    subst (λ es. IsCoreOf c.args.edges es) (sym c.from_vec.ensures) (c.loop-i.invariant edges (none_left edges none))
