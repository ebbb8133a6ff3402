use Rattle.std.proofs.Common.{ℕ, ◌<◌, ◌≡◌, true, false, length, get_or, All, Contains}
use Rattle.su_fd.specs.declared.Fd.{Fd}
use Rattle.su_maxobj.proofs.OtherOrder.{waiting_count}
use Rattle.su_maxobj.proofs.ordering.placed.Given as goal

abbrev pub invariant-loop-i : goal.invariant-loop-i
invariant-loop-i l = record {
  flags : length l.waiting ≡ length l.fds;
  from : All (Contains l.fds) l.list;
  placed : (k : ℕ) (d : Fd) → k < length l.fds → get_or l.waiting k true ≡ false → Contains l.list (get_or l.fds k d);
}

abbrev pub decreases-loop-i : goal.decreases-loop-i
decreases-loop-i l = waiting_count l.waiting
