-- How wide texts are, in pixels.
-- A character of ASCII is 8 wide; one beyond is taken to be twice as wide. A sum that is too great is the limit.
use Rattle.std.specs.Prelude.{ℕ, ◌+◌, ◌-◌, ◌^◌, ◌&&◌, nat_le, min, if◌then◌else◌, List, [], ◌∷◌}
use Rattle.su_draw.specs.Cutting.{is_long, front_from as front_of_text}

-- the sum, or the limit
abbrev pub plus : ℕ → ℕ → ℕ
plus a b = min (a + b) (2 ^ 32 - 1)

-- how wide a byte is: a character beyond ASCII is taken to be twice as wide
abbrev pub byte_width : ℕ → ℕ
byte_width b = if nat_le 128 b && nat_le b 191 then 0 else (if nat_le 192 b then 16 else 8)

-- so, with the width of what stands before
abbrev pub width_from : ℕ → List ℕ → ℕ
width_from w [] = w
width_from w (b ∷ bs) = width_from (plus w (byte_width b)) bs

-- how wide a text is
abbrev pub width_of : List ℕ → ℕ
width_of text = width_from 0 text

-- how wide a text is as it is shown
abbrev pub shown_width : List ℕ → ℕ
shown_width text = if is_long text then plus (width_of (front_of_text 11 text)) 8 else width_of text
