-- The characters that can't stand in a document as they are.
-- shown for: what stands in the document in place of a character
use Rattle.std.specs.Prelude.{ℕ, ◌+◌, ◌==◌, ◌&&◌, ◌||◌, not, nat_le, nat_lt, if◌then◌else◌, List, [], ◌∷◌, ◌++◌, codes, decimal}
use Rattle.su_draw.specs.Xml.{is_plain}

-- the character that is shown: for a control character its picture, for what is no character of XML the sign of replacement (65533)
abbrev pub shown_for : ℕ → ℕ
shown_for c =
    if nat_lt c 32 then 9216 + c else
    (if c == 127 then 9249 else
    (if nat_lt c 55296 || (nat_le 57344 c && nat_lt c 65534) || (nat_le 65536 c && nat_lt c 1114112) then c else 65533))

-- a character as it is written: itself, or a reference to the one that is shown
abbrev pub char_text : ℕ → List ℕ
char_text c = if is_plain c && not (c == 10) then c ∷ [] else codes "&#" ++ decimal (shown_for c) ++ codes ";"
