-- Lists that are read or written one item after another.
use Rattle.std.proofs.Common.{ℕ, ◌+◌, ◌<◌, ◌≡◌, List, [], ◌∷◌, ◌++◌, length, take, set, get_or, Some, ap, sym, ◌∙◌}
use Rattle.std.specs.List.{slice_get}
use Rattle.std.specs.Option.{unwrap_or}
use Rattle.std.proofs.lemmas.List.{take_more, take_more_set}
use Rattle.std.proofs.lemmas.Option.{unwrap_or-slice_get, slice_get_within}

-- one item more is as it is in ys
pub read_more : {X : Type 0} (xs ys : List X) (o : ℕ) (v : X) → o < length xs → slice_get ys o ≡ Some v → take o xs ≡ take o ys → take (o + 1) (set xs o v) ≡ take (o + 1) ys
read_more xs ys o v h at before =
    let own : v ≡ get_or ys o v = sym (ap (λ z. unwrap_or z v) at) ∙ unwrap_or-slice_get ys o v in
    take_more_set xs o v h ∙ ap (λ z. z ++ v ∷ []) before ∙ ap (λ z. take o ys ++ z ∷ []) own ∙ sym (take_more ys o v (slice_get_within ys o v at))
