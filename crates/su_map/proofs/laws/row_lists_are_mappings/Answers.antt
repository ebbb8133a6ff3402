-- A row list says where each row goes, and so where each symbol does.
use Rattle.su_map.proofs.Containment.{list_maps, maps_list}
use Rattle.su_map.proofs.laws.row_lists_are_mappings.Goals as goal

pub returns : goal.returns
returns c = record { to = λ s t m k. list_maps s t m k; from = λ s t m k. maps_list s t m k }
