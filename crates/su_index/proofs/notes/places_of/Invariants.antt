use Rattle.std.proofs.Common.{◌<◌, ℕ, List, slice_index_or}
use Rattle.su_base.specs.declared.values.Value.{Value}
use Rattle.su_index.specs.inside.Notes.{IsNoted}
use Rattle.su_index.proofs.notes.places_of.Given as goal

abbrev pub invariant-loop-position : goal.invariant-loop-position
invariant-loop-position l = (p : ℕ) (d : List Value) → p < l.position → IsNoted l.columns l.places (slice_index_or l.rows p d)
