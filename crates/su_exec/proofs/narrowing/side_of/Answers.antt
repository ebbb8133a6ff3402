-- What is less than some value is less than each greater one, and the other way round: so the operators of order each have a side.
use Rattle.std.proofs.Common.{◌≡◌, sym, subst, ⊎_elim}
use Rattle.su_where.specs.declared.operators.Op.TheVariants.{Greater, GreaterEqual, Less, LessEqual}
use Rattle.su_exec.specs.inside.Ranges.{IsSide}
use Rattle.su_exec.proofs.Sides.{greater_equal_side, greater_side, less_equal_side, less_side}
use Rattle.su_exec.proofs.narrowing.side_of.Goals as goal

pub returns-in-Less : goal.returns-in-Less
returns-in-Less c =
    ⊎_elim
    (λ (e : c.args.op ≡ Less). subst (λ op. IsSide op Less) (sym e) less_side)
    (λ (e : c.args.op ≡ LessEqual). subst (λ op. IsSide op Less) (sym e) less_equal_side)
    c.in-Less.is

pub returns-in-Greater : goal.returns-in-Greater
returns-in-Greater c =
    ⊎_elim
    (λ (e : c.args.op ≡ Greater). subst (λ op. IsSide op Greater) (sym e) greater_side)
    (λ (e : c.args.op ≡ GreaterEqual). subst (λ op. IsSide op Greater) (sym e) greater_equal_side)
    c.in-Greater.is
