-- Long words: cut where they are shown, whole in a title.
-- long: of more than twelve characters; a byte from 128 to 191 goes on with a character
use Rattle.std.specs.Prelude.{ℕ, ◌+◌, ◌-◌, ◌==◌, ◌&&◌, nat_le, nat_lt, if◌then◌else◌, Bool, List, [], ◌∷◌, ◌++◌, codes}
use Rattle.su_draw.specs.Characters.{char_text}
use Rattle.su_draw.specs.Xml.{element_text}
use Rattle.su_draw.specs.EscapedBytes.{escaped}

-- the byte goes on with a character
abbrev pub is_inside : ℕ → Bool
is_inside b = nat_le 128 b && nat_le b 191

-- how many characters there are, with those before
abbrev pub chars_from : ℕ → List ℕ → ℕ
chars_from n [] = n
chars_from n (b ∷ bs) = chars_from (if is_inside b then n else n + 1) bs

-- there are more than twelve characters
abbrev pub is_long : List ℕ → Bool
is_long text = nat_lt 12 (chars_from 0 text)

-- so many characters, from the first one on
abbrev pub front_from : ℕ → List ℕ → List ℕ
front_from n [] = []
front_from n (b ∷ bs) = if is_inside b then b ∷ front_from n bs else (if n == 0 then [] else b ∷ front_from (n - 1) bs)

-- a long text: the whole in a title, eleven characters and an ellipsis (8230)
abbrev pub cut_text : List ℕ → List ℕ
cut_text text = element_text (codes "title") [] (escaped text) ++ (escaped (front_from 11 text) ++ char_text 8230)

-- what is shown of a text: a long one is cut
abbrev pub shown_text : List ℕ → List ℕ
shown_text text = if is_long text then cut_text text else escaped text
