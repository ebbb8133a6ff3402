-- The set is that of the least tableau, whose part is a least form of the one that was handed in.
use Rattle.std.proofs.Common.{ℕ, sym, subst}
use Rattle.su_tableau.specs.Tableaux.{Tab}
use Rattle.su_tableau.specs.Kinds.{IsTyped}
use Rattle.su_min.specs.Kept.{IsLeastPart}
use Rattle.library_tableaux.proofs.least.least_part.Goals as goal

pub returns-in-Ok : goal.returns-in-Ok
returns-in-Ok c = λ kinds typed.
    let m = c.in-Ok.minimal in
    let least : IsLeastPart kinds m.tableau m.mask = c.in-Ok.ensures.least kinds (subst (λ (t : Tab). IsTyped kinds t) (sym c.in-Ok.ensures.is) typed) in
    let told : IsLeastPart kinds m.tableau c.mask.result = subst (λ (k : ℕ). IsLeastPart kinds m.tableau k) (sym c.mask.ensures.is) least in
    subst (λ (t : Tab). IsLeastPart kinds t c.mask.result) c.in-Ok.ensures.is told
