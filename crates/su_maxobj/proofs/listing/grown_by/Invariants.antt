use Rattle.std.proofs.Common.{ℕ, ◌≡◌, ◌<◌, length}
use Rattle.su_maxobj.specs.Growth.{IsGrown}
use Rattle.su_base.specs.Sets.{set_at}
use Rattle.su_maxobj.proofs.listing.grown_by.Given as goal

abbrev pub invariant-loop-seed : goal.invariant-loop-seed
invariant-loop-seed l = record {
  seeds : length l.grown ≡ l.seed;
  each : (k : ℕ) → k < l.seed → IsGrown l.fds l.objects k (set_at l.grown k);
}
