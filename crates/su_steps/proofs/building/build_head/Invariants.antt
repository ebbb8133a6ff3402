use Rattle.std.proofs.Common.{◌≡◌, ℕ, ◌<◌, ◌*◌, map, take, get_or}
use Rattle.su_where.specs.declared.literals.Literal.{Literal}
use Rattle.su_steps.specs.PairSymbols.{place_symbol, compared, comparisons}
use Rattle.su_steps.specs.Evaluated.{EvaluatesFalse}
use Rattle.su_steps.specs.inside.Heads.{head_of}
use Rattle.su_steps.specs.inside.Numbers.{class_name}
use Rattle.su_steps.proofs.building.build_head.Given as goal

abbrev pub invariant-loop-literal : goal.invariant-loop-literal
invariant-loop-literal l = record {
  not_false : (k : ℕ) (d : Literal) → k < l.literal-index → ¬ EvaluatesFalse (class_name (l.variables * l.classes.width) l.classes) (compared l.classes.width l.places (get_or l.literals k d));
  is : l.head ≡ head_of (class_name (l.variables * l.classes.width) l.classes) (map (λ i. class_name (l.variables * l.classes.width) l.classes (place_symbol l.classes.width l.places i)) l.outputs) (comparisons l.classes.width l.places (take l.literal-index l.literals));
}
