-- What holds of the pieces of inputs.
-- input, come: the bytes of an input, and those of it so far; pieces: as in Cuts and Ended
use Rattle.std.specs.Prelude.{◌≡◌, ℕ, List, [], ◌∷◌, ◌++◌, map}
use Rattle.su_lex.specs.Pieces.{Pieces}
use Rattle.su_stream.specs.declared.streams.Stream.{Stream}
use Rattle.su_stream.specs.declared.pieces.Piece.{Piece}
use Rattle.su_stream.specs.Cuts.{Cuts}
use Rattle.su_stream.specs.Ended.{AreEnded, statements, text_at}
use Rattle.su_stream.specs.Coming.{HasCome, HasLookedAtAll}

-- an input is cut in one way at most
abbrev pub OneWayOfCutting : Type 0
OneWayOfCutting = (input : List ℕ) (pieces others : List Piece) (last end : Piece) → Cuts input pieces last → Cuts input others end → (others ≡ pieces) × (end ≡ last)

-- each input is cut
abbrev pub EachIsCut : Type 0
EachIsCut = (input : List ℕ) → (pieces : List Piece) × AreEnded input pieces

-- the pieces that are statements are those of su_lex
abbrev pub AreStatementsOfFiles : Type 0
AreStatementsOfFiles = (input : List ℕ) (pieces : List Piece) (last : Piece) → Cuts input pieces last → Pieces input (statements (pieces ++ last ∷ []))

-- what has ended stays ended as more comes
abbrev pub WhatHasEndedStays : Type 0
WhatHasEndedStays = (come more : List ℕ) (pieces : List Piece) → AreEnded come pieces → (later : List Piece) × AreEnded (come ++ more) (pieces ++ later)

-- the texts of the statements that have ended stay as more comes
abbrev pub TextsStay : Type 0
TextsStay = (come more : List ℕ) (pieces : List Piece) → AreEnded come pieces → map (text_at (come ++ more)) (statements pieces) ≡ map (text_at come) (statements pieces)

-- the pieces that a stream has given are the first of those that have ended, also as more comes
abbrev pub GivenComeFirst : Type 0
GivenComeFirst = (s : Stream) (come more : List ℕ) (pieces : List Piece) → HasCome come pieces s → (later : List Piece) × AreEnded (come ++ more) (pieces ++ later)

-- two streams to which the same bytes came, however they were cut, have given the same pieces where both have looked at all
abbrev pub SameHoweverItComes : Type 0
SameHoweverItComes = (s t : Stream) (come : List ℕ) (pieces others : List Piece) → HasCome come pieces s → HasLookedAtAll s → HasCome come others t → HasLookedAtAll t → others ≡ pieces
