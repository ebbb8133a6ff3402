-- What has come of an input, and which of its pieces a stream has given.
-- come: the bytes of the input so far; pieces: those of it that were given
use Rattle.std.specs.Prelude.{◌≤◌, ◌+◌, ℕ, List, [], ◌∷◌, ◌++◌, drop, vec_len}
use Rattle.su_lex.specs.declared.spans.Span.{Span}
use Rattle.su_stream.specs.declared.streams.Stream.{Stream}
use Rattle.su_stream.specs.declared.pieces.Piece.{Piece}
use Rattle.su_stream.specs.Cuts.{Cuts}
use Rattle.su_stream.specs.Ended.{AreEnded}
use Rattle.su_stream.specs.inside.Held.{Holding, LooksAtAll}

-- sealed: these bytes have come, and these pieces were given, the first of those that have ended
unfoldable pub HasCome : List ℕ → List Piece → Stream → Type 0
HasCome come pieces s = Holding come pieces s

-- the same bytes have come, and the same pieces were given
abbrev pub IsSameInput : Stream → Stream → Type 0
IsSameInput old new = (come : List ℕ) (pieces : List Piece) → HasCome come pieces old → HasCome come pieces new

-- these bytes have come more
abbrev pub Takes : List ℕ → Stream → Stream → Type 0
Takes bytes old new = (come : List ℕ) (pieces : List Piece) → HasCome come pieces old → HasCome (come ++ bytes) pieces new

-- this piece was given more
abbrev pub Gives : Piece → Stream → Stream → Type 0
Gives piece old new = (come : List ℕ) (pieces : List Piece) → HasCome come pieces old → HasCome come (pieces ++ piece ∷ []) new

-- sealed: all that has come was looked at
unfoldable pub HasLookedAtAll : Stream → Type 0
HasLookedAtAll s = LooksAtAll s

-- each piece that has ended was given
abbrev pub IsUpToDate : Stream → Type 0
IsUpToDate s = (come : List ℕ) (pieces : List Piece) → HasCome come pieces s → AreEnded come pieces

-- the input so far is the pieces that were given, and this one
abbrev pub Closes : Stream → Piece → Type 0
Closes s last = (come : List ℕ) (pieces : List Piece) → HasCome come pieces s → Cuts come pieces last

-- the bytes that are held behind the last piece that was given
abbrev pub open_text : Stream → List ℕ
open_text s = drop s.from s.held.items

-- the bytes of the span are held
pub record Holds (s : Stream) (span : Span) : Type 0 where
  pub from : s.base ≤ span.start
  pub ordered : span.start ≤ span.end
  pub to : span.end ≤ s.base + vec_len s.held

-- what was held still is
abbrev pub StaysHeld : Stream → Stream → Type 0
StaysHeld old new = (span : Span) → Holds old span → Holds new span
