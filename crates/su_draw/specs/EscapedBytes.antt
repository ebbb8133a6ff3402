-- Bytes of UTF-8 as characters of XML, in ASCII.
-- begun: a character that has begun; how many of its bytes are still to come, and its bits so far
use Rattle.std.specs.Prelude.{ℕ, ◌+◌, ◌-◌, ◌*◌, ◌%◌, ◌==◌, ◌&&◌, ◌||◌, not, nat_le, nat_lt, if◌then◌else◌, Bool, List, [], ◌∷◌, ◌++◌}
use Rattle.su_draw.specs.declared.escaping.Begun.{Begun}
use Rattle.su_draw.specs.Characters.{char_text}

-- no character is begun
abbrev pub none_begun : Begun
none_begun = record { left = 0; bits = 0 }

-- what a byte begins
abbrev pub begun_with : ℕ → Begun
begun_with b =
    if nat_le 192 b && nat_le b 223 then record { left = 1; bits = b - 192 } else
    (if nat_le 224 b && nat_le b 239 then record { left = 2; bits = b - 224 } else
    (if nat_le 240 b && nat_le b 247 then record { left = 3; bits = b - 240 } else none_begun))

-- the bits with those of one more byte
abbrev pub bits_with : ℕ → ℕ → ℕ
bits_with bits b = bits % 32768 * 64 + b % 64

-- a byte that is a character, or begins one, or neither
abbrev pub first_text : ℕ → List ℕ
first_text b = if (begun_with b).left == 0 then char_text (if nat_lt b 128 then b else 65533) else []

-- the byte goes on with a character
abbrev pub goes_on : ℕ → Bool
goes_on b = nat_le 128 b && nat_lt b 192

-- what is written at the next byte
abbrev pub byte_text : Begun → ℕ → List ℕ
byte_text s b =
    if s.left == 0 then first_text b else
    (if not (goes_on b) then char_text 65533 ++ first_text b else
    (if s.left == 1 then char_text (bits_with s.bits b) else []))

-- what has begun behind it
abbrev pub begun_behind : Begun → ℕ → Begun
begun_behind s b =
    if s.left == 0 || not (goes_on b) then begun_with b else
    (if s.left == 1 then none_begun else record { left = s.left - 1; bits = bits_with s.bits b })

-- the bytes escaped, from a character that may be begun; one that is never ended is U+FFFD
abbrev pub escaped_on : Begun → List ℕ → List ℕ
escaped_on s [] = if s.left == 0 then [] else char_text 65533
escaped_on s (b ∷ bs) = byte_text s b ++ escaped_on (begun_behind s b) bs

-- bytes as XML; one that is part of no character is shown as the sign of replacement
abbrev pub escaped : List ℕ → List ℕ
escaped bytes = escaped_on none_begun bytes
