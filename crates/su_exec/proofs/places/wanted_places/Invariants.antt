use Rattle.std.proofs.Common.{◌≡◌, ℕ, true, false, length, take}
use Rattle.su_exec.specs.inside.Edges.{has}
use Rattle.su_reduce.specs.Sheets.{pick, AreBelow}
use Rattle.su_exec.proofs.places.wanted_places.Given as goal

abbrev pub invariant-loop-p : goal.invariant-loop-p
invariant-loop-p l = record {
  below : AreBelow l.places.items (length l.xs);
  only : (k : ℕ) → has (pick l.places.items l.xs) k ≡ true → has l.wanted k ≡ true;
  all : (k : ℕ) → has (take l.p l.xs) k ≡ true → has l.skip k ≡ false → has l.wanted k ≡ true → has (pick l.places.items l.xs) k ≡ true;
}
