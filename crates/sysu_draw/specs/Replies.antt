-- The text that is drawn, and what is written for it.
-- reply: the document of its picture, or the line that tells its first line at fault; kept: only kept rows are drawn
use Rattle.std.specs.Prelude.{◌≡◌, ◌^◌, ℕ, Bool, true, false, List, Option, ◌++◌, codes, decimal}
use Rattle.su_io.specs.declared.files.File.{File}
use Rattle.su_io.specs.declared.status.Status.{Status}
use Rattle.su_io.specs.declared.status.Status.TheVariants.{Done, SomeRefused}
use Rattle.su_io.specs.FileEnds.{IsFile}
use Rattle.su_explained.specs.LineFaults.{IsAtFault}
use Rattle.su_draw.specs.Pictures.{IsPictureOf, IsKeptPictureOf}

-- 16 MiB
abbrev pub text_limit : ℕ
text_limit = 2 ^ 24

-- what is written for other words
abbrev pub usage_line : List ℕ
usage_line = codes "usage: sysu_draw [--kept] FILE\n"

-- what is written where the line with this number is at fault
abbrev pub fault_line : ℕ → List ℕ
fault_line number = codes "refused: line " ++ decimal number ++ codes "\n"

-- the picture of a text: of its kept rows alone, or of all
abbrev pub IsDrawing : Bool → List ℕ → List ℕ → Type 0
IsDrawing true text bytes = IsKeptPictureOf text bytes
IsDrawing false text bytes = IsPictureOf text bytes

-- the reply to a text, with the status of a run that writes it
abbrev pub IsReply : Bool → List ℕ → Status → List ℕ → Type 0
IsReply kept text Done bytes = IsDrawing kept text bytes
IsReply kept text SomeRefused bytes = (number : ℕ) × IsAtFault text number × (bytes ≡ fault_line number)
IsReply kept text _ bytes = ⊥

-- the reply to the text of this file
abbrev pub IsReplyTo : Bool → List ℕ → Option (List File) → Status → List ℕ → Type 0
IsReplyTo kept path files came bytes = (text : List ℕ) × IsFile files path text_limit text × IsReply kept text came bytes
