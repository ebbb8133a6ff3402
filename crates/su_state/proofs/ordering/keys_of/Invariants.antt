use Rattle.std.proofs.Common.{◌≡◌, All, map, take}
use Rattle.su_state.specs.inside.Leads.{IsRowLead}
use Rattle.su_state.proofs.ordering.keys_of.Given as goal

abbrev pub invariant-loop-row : goal.invariant-loop-row
invariant-loop-row l = record {
  leads : All (λ key. IsRowLead key.0 key.1.now) l.keys.items;
  rows : map (λ key. key.1.now) l.keys.items ≡ take l.row-index l.rows;
}
