-- What a stream holds of the input.
-- come: the bytes of the input so far; pieces: those of it that were given; rest: what stands behind the last of them; more: what comes behind
-- No public contract cites this module.
use Rattle.std.specs.Prelude.{◌≡◌, ◌-◌, ℕ, true, false, List, [], ◌++◌, length, take, drop}
use Rattle.su_lex.specs.Pieces.{after_mark}
use Rattle.su_stream.specs.declared.streams.Stream.{Stream}
use Rattle.su_stream.specs.declared.pieces.Piece.{Piece}
use Rattle.su_stream.specs.declared.fronts.Front.TheVariants.{Unknown}
use Rattle.su_stream.specs.Cuts.{AreCutOff}
use Rattle.su_stream.specs.inside.Fronts.{front_at}
use Rattle.su_stream.specs.inside.OpenTexts.{IsAt}

-- whatever comes behind, these pieces are cut off before the rest
abbrev pub Leads : List ℕ → List Piece → List ℕ → Type 0
Leads come pieces rest = (more : List ℕ) → AreCutOff (length (come ++ more)) (after_mark (come ++ more)) pieces (rest ++ more)

-- nothing was given, and what has come is all held
pub record IsFresh (pieces : List Piece) (s : Stream) : Type 0 where
  pub none : pieces ≡ []
  pub base : s.base ≡ 0
  pub from : s.from ≡ 0

-- the bytes behind the last piece that were looked at
abbrev pub looked_at : Stream → List ℕ
looked_at s = take (s.seen - s.from) (drop s.from s.held.items)

-- these bytes have come, and these pieces were given
pub record Holding (come : List ℕ) (pieces : List Piece) (s : Stream) : Type 0 where
  pub gone : List ℕ
  pub come_is : come ≡ gone ++ s.held.items
  pub base_is : s.base ≡ length gone
  pub fresh : s.begun ≡ false → IsFresh pieces s
  pub leads : s.begun ≡ true → Leads come pieces (drop s.from s.held.items)
  pub at : IsAt s.state (looked_at s)

-- all that has come was looked at
pub record LooksAtAll (s : Stream) : Type 0 where
  pub all : s.seen ≡ length s.held.items
  pub unknown : s.begun ≡ false → front_at s.held.items ≡ Unknown
