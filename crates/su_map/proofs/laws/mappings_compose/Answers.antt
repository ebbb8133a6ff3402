-- Composed symbol by symbol, two mappings keep constants, heads and rows.
use Rattle.su_tableau.proofs.Containment.{maps_compose}
use Rattle.su_map.proofs.laws.mappings_compose.Goals as goal

pub returns : goal.returns
returns c = maps_compose
