use Rattle.std.proofs.Common.{◌≡◌, ℕ, ◌<◌, get_or}
use Rattle.su_base.specs.declared.values.Kind.{Kind}
use Rattle.su_compare.specs.Outputs.{output_kinds}
use Rattle.su_compare.proofs.outputs.agree.Given as goal

abbrev pub invariant-loop-i : goal.invariant-loop-i
invariant-loop-i l = (k : ℕ) (d : Kind) → k < l.i → get_or (output_kinds l.schema l.first) k d ≡ get_or (output_kinds l.schema l.second) k d
