use Rattle.std.proofs.Common.{◌≡◌, ℕ, ◌<◌, [], length, get_or}
use Rattle.su_reduce.specs.Ears.{cells_of}
use Rattle.su_reduce.specs.inside.Partners.{AreSets}
use Rattle.su_reduce.proofs.sharing.table_of.Given as goal

abbrev pub invariant-loop-edge : goal.invariant-loop-edge
invariant-loop-edge l = record {
  long : length l.table ≡ l.edge-index;
  each : (i : ℕ) → i < l.edge-index → AreSets (cells_of l.edges) (get_or l.edges i (record { cells = []; candidates = [] })).cells (get_or l.table i []);
}
