-- The pieces of an input that comes bit by bit.
-- come: the bytes of the input so far; over: whether it has come to its end; more: what comes behind
use Rattle.std.specs.Prelude.{◌≡◌, ◌⊎◌, ◌≤◌, ◌-◌, ◌^◌, ℕ, Bool, true, false, List, [], ◌∷◌, ◌++◌, length}
use Rattle.std.specs.List.{AllByRecursion}
use Rattle.su_lex.specs.Pieces.{after_mark}
use Rattle.su_stream.specs.declared.pieces.Piece.{Piece}
use Rattle.su_stream.specs.Cuts.{AreCutOff, Cuts}
use Rattle.su_stream.specs.Ended.{AreEnded}

-- 16 MiB
abbrev pub statement_limit : ℕ
statement_limit = 2 ^ 24

-- the piece lies within what has come, and isn't too long
pub record Fits (come : List ℕ) (piece : Piece) : Type 0 where
  pub ordered : piece.span.start ≤ piece.span.end
  pub within : piece.span.end ≤ length come
  pub short : piece.span.end - piece.span.start ≤ statement_limit

-- all pieces of the input, the last one included
abbrev pub AreWhole : List ℕ → List Piece → Type 0
AreWhole input pieces = (ended : List Piece) × (last : Piece) × (pieces ≡ ended ++ last ∷ []) × Cuts input ended last

-- the first pieces of the input: a `;` stands behind each; or all pieces
abbrev pub AreFront : List ℕ → List Piece → Type 0
AreFront input pieces = ((rest : List ℕ) × AreCutOff (length input) (after_mark input) pieces rest) ⊎ AreWhole input pieces

-- so of the whole input, whatever comes behind: nothing where it is over
abbrev pub BeginsWith : List ℕ → Bool → List Piece → Type 0
BeginsWith come over pieces = (more : List ℕ) → (over ≡ true → more ≡ []) → AreFront (come ++ more) pieces

-- the first pieces of the input, none of which is too long
pub record AreFirst (come : List ℕ) (over : Bool) (pieces : List Piece) : Type 0 where
  pub fit : AllByRecursion (Fits come) pieces
  pub front : BeginsWith come over pieces

-- all pieces of an input that is over: with frames, those that a `;` has ended
abbrev pub AreAll : Bool → List ℕ → List Piece → Type 0
AreAll true come pieces = AreEnded come pieces
AreAll false come pieces = AreWhole come pieces
