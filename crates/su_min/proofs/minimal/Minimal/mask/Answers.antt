-- By its rules the term keeps rows of its own tableau alone, so the mask has no bit past them.
use Rattle.std.proofs.Common.{ap, arith}
use Rattle.su_min.specs.Kept.{Minimised}
use Rattle.su_min.proofs.KeptRows.{kept_within}
use Rattle.su_min.proofs.minimal.Minimal.mask.Goals as goal

pub returns-clause-within : goal.returns-clause-within
returns-clause-within c =
    let low = kept_within c.args.self.now.tableau c.args.self.now.mask c.keeps_its_rules.ensures.kept in
    let is = ap (λ (m : Minimised). m.mask) c.self.view_is in
    omega arith
