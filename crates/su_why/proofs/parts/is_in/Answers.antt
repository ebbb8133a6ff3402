-- A constant is in any rows; a variable is where it stands.
use Rattle.std.proofs.Common.{◌≡◌, refl, subst}
use Rattle.su_why.specs.inside.Parts.{StandsInSome}
use Rattle.su_why.proofs.parts.is_in.Goals as goal

pub returns-in-Const : goal.returns-in-Const
returns-in-Const c = (λ t k e. absurd (let s = c.in-Const.is in cc), λ w. refl)

pub returns-in-Var : goal.returns-in-Var
returns-in-Var c = (
  λ t k e. let same : c.in-Var.k ≡ k = (let s = c.in-Var.is in cc) in subst (StandsInSome c.args.rows.now) same (c.stands_in.ensures.0 t),
  λ in'. c.stands_in.ensures.1 (in' c.in-Var.k c.in-Var.is),
)
