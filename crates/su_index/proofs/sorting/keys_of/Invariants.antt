use Rattle.std.proofs.Common.{◌≡◌, ◌+◌, All, length}
use Rattle.su_index.specs.inside.Lead.{IsLead}
use Rattle.su_index.specs.inside.Keys.{AreEachOnce}
use Rattle.su_index.specs.inside.Order.{value_at}
use Rattle.su_index.proofs.sorting.keys_of.Given as goal

abbrev pub invariant-loop-position : goal.invariant-loop-position
invariant-loop-position l = record {
  values : All (λ key. IsLead key.0 key.1.now × (key.1.now ≡ value_at l.rows l.column key.2)) l.keys.items;
  each : AreEachOnce l.from l.position l.keys.items;
  len : l.from + length l.keys.items ≡ l.position;
}
