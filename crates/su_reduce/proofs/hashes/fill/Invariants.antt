use Rattle.std.proofs.Common.{◌≡◌, ℕ, ◌<◌, length, get_or, true}
use Rattle.su_reduce.specs.Chains.{in_bucket, last}
use Rattle.su_reduce.proofs.hashes.fill.Given as goal

abbrev pub invariant-loop-j : goal.invariant-loop-j
invariant-loop-j l = record {
  heads_len : length l.heads ≡ length l.initial.heads;
  next_len : length l.next ≡ length l.initial.next;
  heads : (h : ℕ) → h < length l.heads → get_or l.heads h 0 ≡ last (in_bucket l.rows.rows l.places (length l.heads) h) l.j;
  next : (k h : ℕ) → k < l.j → in_bucket l.rows.rows l.places (length l.heads) h k ≡ true → get_or l.next k 0 ≡ last (in_bucket l.rows.rows l.places (length l.heads) h) k;
}
