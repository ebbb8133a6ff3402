use Rattle.std.proofs.Common.{◌≡◌, ℕ, ◌<◌, get_or}
use Rattle.su_classes.specs.declared.items.Together.{Together}
use Rattle.su_classes.specs.inside.Tables.{IsJoining}
use Rattle.su_classes.proofs.tables.join_all.Given as goal

abbrev pub invariant-loop-e : goal.invariant-loop-e
invariant-loop-e l = IsJoining (λ label. (k : ℕ) (d : Together) → k < l.e-index → label (get_or l.equal k d).left ≡ label (get_or l.equal k d).right) l.fn.table l.table
