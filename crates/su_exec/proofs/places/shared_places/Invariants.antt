use Rattle.std.proofs.Common.{◌≡◌, ℕ, true, length, take}
use Rattle.su_exec.specs.inside.Edges.{has}
use Rattle.su_reduce.specs.Sheets.{pick, AreBelow}
use Rattle.su_exec.proofs.places.shared_places.Given as goal

abbrev pub invariant-loop-p : goal.invariant-loop-p
invariant-loop-p l = record {
  left : AreBelow l.left.items (length l.xs);
  right : AreBelow l.right.items (length l.ys);
  same : pick l.left.items l.xs ≡ pick l.right.items l.ys;
  lengths : length l.left.items ≡ length l.right.items;
  all : (k : ℕ) → has (take l.p l.xs) k ≡ true → has l.ys k ≡ true → has (pick l.left.items l.xs) k ≡ true;
}
