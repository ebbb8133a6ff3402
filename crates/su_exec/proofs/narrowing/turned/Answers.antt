-- Each operator says of two values what its turned one says of them exchanged.
use Rattle.std.proofs.Common.{◌≡◌, sym, subst}
use Rattle.su_where.specs.Operator.{compares}
use Rattle.su_where.specs.declared.operators.Op.TheVariants.{Equal, Greater, GreaterEqual, Less, LessEqual, NotEqual}
use Rattle.su_exec.proofs.Sides.{turn_equal, turn_greater, turn_greater_equal, turn_less, turn_less_equal, turn_not_equal}
use Rattle.su_exec.proofs.narrowing.turned.Goals as goal

pub returns-in-Equal : goal.returns-in-Equal
returns-in-Equal c = λ x y. subst (λ op. compares Equal y x ≡ compares op x y) (sym c.in-Equal.is) (turn_equal x y)

pub returns-in-NotEqual : goal.returns-in-NotEqual
returns-in-NotEqual c = λ x y. subst (λ op. compares NotEqual y x ≡ compares op x y) (sym c.in-NotEqual.is) (turn_not_equal x y)

pub returns-in-Less : goal.returns-in-Less
returns-in-Less c = λ x y. subst (λ op. compares Greater y x ≡ compares op x y) (sym c.in-Less.is) (turn_less x y)

pub returns-in-LessEqual : goal.returns-in-LessEqual
returns-in-LessEqual c = λ x y. subst (λ op. compares GreaterEqual y x ≡ compares op x y) (sym c.in-LessEqual.is) (turn_less_equal x y)

pub returns-in-Greater : goal.returns-in-Greater
returns-in-Greater c = λ x y. subst (λ op. compares Less y x ≡ compares op x y) (sym c.in-Greater.is) (turn_greater x y)

pub returns-in-GreaterEqual : goal.returns-in-GreaterEqual
returns-in-GreaterEqual c = λ x y. subst (λ op. compares LessEqual y x ≡ compares op x y) (sym c.in-GreaterEqual.is) (turn_greater_equal x y)
