-- All of two conditions fits where both do.
use Rattle.std.proofs.Common.{[], ◌∷◌, ℕ, subst, sym, All as Each}
use Rattle.std.specs.List.{flat_map}
use Rattle.std.proofs.lemmas.List.Elements.{All-nil, All-append}
use Rattle.su_where.specs.declared.conditions.Condition.TheVariants.{All}
use Rattle.su_where.specs.Truth.{Cond, comparisons_of}
use Rattle.su_where.specs.Places.{HasPlacesBelow, Fits}
use Rattle.su_where.proofs.Layers.{comparisons_of-All}

pub both_fit : (n : ℕ) (a b : Cond) → Fits n a → Fits n b → Fits n (All (a ∷ b ∷ []))
both_fit n a b one two =
    subst (Each (HasPlacesBelow n)) (sym (comparisons_of-All (a ∷ b ∷ [])))
    (All-append (HasPlacesBelow n) (comparisons_of a) (flat_map comparisons_of (b ∷ [])) one (All-append (HasPlacesBelow n) (comparisons_of b) [] two (All-nil (HasPlacesBelow n))))
