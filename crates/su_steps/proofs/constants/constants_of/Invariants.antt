use Rattle.std.proofs.Common.{ℕ, ◌<◌, get_or}
use Rattle.su_where.specs.declared.literals.Literal.{Literal}
use Rattle.su_classes.specs.inside.Symbols.{AreDistinct}
use Rattle.su_steps.specs.inside.Numbers.{AreNoted}
use Rattle.su_steps.proofs.constants.constants_of.Given as goal

abbrev pub invariant-loop-literal : goal.invariant-loop-literal
invariant-loop-literal l = record {
  distinct : AreDistinct l.constants;
  noted : (k : ℕ) (d : Literal) → k < l.literal-index → AreNoted l.constants (get_or l.disjunct k d);
}
