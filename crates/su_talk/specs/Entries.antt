-- What is told of the pieces of an input, in order.
-- answer: the reply to the statement that stands there, and where a refused one goes wrong; blank: a piece of white space and comments alone
-- frames: whether lines for programs stand before the replies; k: how many statements were answered before
use Rattle.std.specs.Prelude.{ℕ, ◌+◌, ◌||◌, Bool, true, false, List, [], ◌∷◌, ◌++◌, length, map, codes, decimal, Option, if◌then◌else◌}
use Rattle.su_lex.specs.declared.spans.Span.{Span}
use Rattle.su_stream.specs.declared.pieces.Piece.{Piece}
use Rattle.su_session.specs.declared.replies.Reply.{Reply}
use Rattle.su_faults.specs.declared.faults.Fault.{Fault}
use Rattle.su_places.specs.Laws.{told}

pub data Entry : Type 0 where
  Answer : Span → Reply → Option Fault → Entry
  Blank : Span → Entry

-- the piece that it is of
abbrev pub piece_of : Entry → Piece
piece_of (Answer span reply found) = record { span = span; blank = false }
piece_of (Blank span) = record { span = span; blank = true }

abbrev pub pieces_of : List Entry → List Piece
pieces_of entries = map piece_of entries

-- how many statements were answered behind one more
abbrev pub after : ℕ → Entry → ℕ
after k (Answer span reply found) = k + 1
after k (Blank span) = k

-- whether it is a refusal
abbrev pub refuses : Entry → Bool
refuses (Answer span reply found) = reply.refused
refuses (Blank span) = false

-- whether some reply is a refusal
abbrev pub some_refuses : List Entry → Bool
some_refuses [] = false
some_refuses (entry ∷ entries) = refuses entry || some_refuses entries

-- FROM TO
abbrev pub places_of : Span → List ℕ
places_of span = decimal span.start ++ codes " " ++ decimal span.end

-- `accepted` or `refused`
abbrev pub verdict_of : Reply → List ℕ
verdict_of reply = if reply.refused then codes "refused" else codes "accepted"

-- reply K FROM TO LENGTH
abbrev pub reply_head : ℕ → Span → Reply → List ℕ
reply_head k span reply = codes "reply " ++ decimal k ++ codes " " ++ places_of span ++ codes " " ++ decimal (length reply.bytes) ++ codes " "

-- reply K FROM TO LENGTH accepted|refused, and ` at PLACE expected KIND ..` of one that goes wrong, with the place in the input
abbrev pub reply_line : ℕ → Span → Reply → Option Fault → List ℕ
reply_line k span reply found = ((reply_head k span reply ++ verdict_of reply) ++ told span.start found) ++ 10 ∷ []

-- blank FROM TO
abbrev pub blank_line : Span → List ℕ
blank_line span = codes "blank " ++ places_of span ++ 10 ∷ []

-- what is told of one
abbrev pub text_of : Bool → ℕ → Entry → List ℕ
text_of true k (Answer span reply found) = reply_line k span reply found ++ reply.bytes
text_of true k (Blank span) = blank_line span
text_of false k (Answer span reply found) = reply.bytes
text_of false k (Blank span) = []

-- what is told of all, where so many statements were answered before
abbrev pub texts_from : Bool → ℕ → List Entry → List ℕ
texts_from frames k [] = []
texts_from frames k (entry ∷ entries) = text_of frames k entry ++ texts_from frames (after k entry) entries
