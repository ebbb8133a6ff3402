-- The chased tableau has the width, the outputs and the operators of the tableau, so the terms are alike to it too.
use Rattle.std.proofs.Common.{subst}
use Rattle.su_chase.specs.Chased.{IsChased, IsChaseOf}
use Rattle.su_compare.proofs.Settled.{alike_chased}
use Rattle.su_compare.proofs.settling.settle.Goals as goal

pub found-requires-clause-alike : goal.found-requires-clause-alike
found-requires-clause-alike c =
    let chased : IsChased c.args.fds.now c.args.t.now c.in-Closed.c = subst (IsChaseOf c.args.fds.now c.args.t.now) c.in-Closed.is c.in_ok-chase.ensures.chased in
    alike_chased c.args.fds.now c.args.t.now c.in-Closed.c c.args.terms.now chased c.requires.alike
