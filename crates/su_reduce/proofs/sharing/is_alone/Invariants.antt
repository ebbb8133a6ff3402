use Rattle.std.proofs.Common.{ℕ, ◌<◌}
use Rattle.su_base.specs.Sets.{set_at}
use Rattle.su_reduce.specs.inside.Partners.{In}
use Rattle.su_reduce.proofs.sharing.is_alone.Given as goal

abbrev pub invariant-loop-set : goal.invariant-loop-set
invariant-loop-set l = (c j : ℕ) → c < l.set-index → In l.others j → ¬ In (set_at l.sets c) j
