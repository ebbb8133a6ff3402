-- Ears are taken away until none is left.
-- The idea: a core of what an ear was taken from is one of what it was taken out of.
use Rattle.std.proofs.Common.{◌≡◌, ℕ, List, [], Some, None, get_or}
use Rattle.std.specs.Prelude.{position}
use Rattle.std.specs.List.{remove}
use Rattle.std.proofs.lemmas.List.Quantifiers.{position-Some}
use Rattle.std.proofs.lemmas.List.Folds.{list_any_none}
use Rattle.std.proofs.lemmas.Option.{slice_get-get_or}
use Rattle.su_base.proofs.RemainingSets.{position-None}
use Rattle.su_draw.specs.declared.ears.Edge.{Edge}
use Rattle.su_draw.specs.Ears.{is_ear, IsCoreOf, stays, taken}

no_edge : Edge
no_edge = record { line = 0; attributes = [] }

pub ear_taken : (edges core : List Edge) (i : ℕ) → position (is_ear edges) edges ≡ Some i → IsCoreOf (remove edges i) core → IsCoreOf edges core
ear_taken edges core i found rest =
    let p = position-Some (is_ear edges) edges i no_edge found in
    taken edges core i (get_or edges i no_edge) (slice_get-get_or edges i no_edge p.0) p.1 rest

pub none_left : (edges : List Edge) → position (is_ear edges) edges ≡ None → IsCoreOf edges edges
none_left edges none = stays edges (list_any_none (is_ear edges) edges (λ k d h. position-None (is_ear edges) edges none k d h))
