-- The first line at fault among the pieces of a text.
-- piece: a line, with its number and its words; number: as an editor counts, from 1; at fault: it can't stand behind the lines before it
-- No public contract cites this module.
use Rattle.std.specs.Prelude.{List}
use Rattle.su_explained.specs.declared.pieces.Piece.{Piece}
use Rattle.su_explained.specs.declared.reading.Fault.{Fault}
use Rattle.su_explained.specs.declared.reading.Fault.TheVariants.{Line as AtLine, NoMemory}
use Rattle.su_explained.specs.LineFaults.{IsLineAtFault}

-- the fault is a line's; want of memory is none
abbrev pub IsFaultAmong : List Piece → Fault → Type 0
IsFaultAmong pieces (AtLine number) = IsLineAtFault pieces number
IsFaultAmong pieces NoMemory = ⊥
