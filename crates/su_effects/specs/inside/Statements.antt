-- The effect of a statement, and of one that changes the rows of a relation.
-- No public contract cites this module.
use Rattle.std.specs.Prelude.{◌≡◌, ◌⊎◌, ◌↔◌, ℕ, true, false, Bool, List, [], ◌∷◌, Contains}
use Rattle.su_base.specs.declared.values.Value.{Value}
use Rattle.su_where.specs.Truth.{Cond, truth_of}
use Rattle.su_state.specs.DatabaseValue.{DatabaseValue}
use Rattle.su_changes.specs.Changes.{LeadTo}
use Rattle.su_session.specs.declared.replies.Reply.{Reply}
use Rattle.su_effects.specs.declared.effects.Effect.{Effect}
use Rattle.su_effects.specs.Effects.{Makes}

-- wherever this happens and is accepted, it makes this of the database
abbrev pub MakesWhere : Effect → DatabaseValue → (Reply → DatabaseValue → Type 0) → Type 0
MakesWhere effect db Happens = (reply : Reply) (new : DatabaseValue) → Happens reply new → reply.refused ≡ false → Makes effect db new

-- the effect is the change of these rows, if there are any
abbrev pub IsChange : ℕ → List (List Value) → Bool → Effect → Type 0
IsChange relation rows is_in effect = (old new : DatabaseValue)
    → LeadTo old (record { relation = relation; rows = rows; is_in = is_in } ∷ []) new → new.schema ≡ old.schema → Makes effect old new

-- with the rows of the table these are as many as those
pub record AreNewOf (stored rows kept : List (List Value)) : Type 0 where
  pub all : (row : List Value) → (Contains stored row ⊎ Contains kept row) ↔ (Contains stored row ⊎ Contains rows row)

-- exactly the rows of which the condition is true
abbrev pub AreMet : Cond → List (List Value) → List (List Value) → Type 0
AreMet cond rows met = (row : List Value) → Contains met row ↔ (Contains rows row × (truth_of cond row ≡ true))
