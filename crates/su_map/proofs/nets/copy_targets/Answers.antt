-- The entries so far are copied, and writing the next leaves them.
use Rattle.std.proofs.Common.{◌≡◌, ℕ, refl, get_or, arith}
use Rattle.su_base.proofs.Items.{get_or-set_each}
use Rattle.su_map.proofs.nets.copy_targets.Goals as goal

pub loop-i-preserved : goal.loop-i-preserved
loop-i-preserved c = λ i low. get_or-set_each (λ (i v : ℕ). v ≡ get_or c.args.base.now i 0) 0 c.loop-i.domains c.loop-i.i (get_or c.args.base.now c.loop-i.i 0) (omega arith) c.loop-i.invariant refl i low
