-- Well-formed XML in ASCII, which is UTF-8 too: elements with attributes, characters, and references to characters.
-- plain: a character that may stand for itself, between tags and in the value of an attribute
use Rattle.std.specs.Prelude.{◌≡◌, ◌⊎◌, ◌≤◌, ◌<◌, ℕ, ◌==◌, ◌&&◌, ◌||◌, not, nat_le, nat_lt, Bool, true, false, List, [], ◌∷◌, ◌++◌, flat_map, codes, decimal}
use Rattle.std.specs.List.{list_all, list_any}
use Rattle.std.specs.Str.{bytes_eq}

-- a line feed, or a printable character of ASCII other than " & ' < >
abbrev pub is_plain : ℕ → Bool
is_plain c = c == 10 || (nat_le 32 c && nat_lt c 127 && not (c == 34 || c == 38 || c == 39 || c == 60 || c == 62))

-- a character of XML, from the blank on
abbrev pub IsChar : ℕ → Type 0
IsChar c = ((32 ≤ c) × (c < 55296)) ⊎ (((57344 ≤ c) × (c < 65534)) ⊎ ((65536 ≤ c) × (c < 1114112)))

-- a letter, or behind the first one a digit, `-` or `:` too
abbrev pub is_letter : ℕ → Bool
is_letter c = (nat_le 65 c && nat_le c 90) || (nat_le 97 c && nat_le c 122)

-- a letter, and behind it letters, digits, `:` and `-`
abbrev pub is_name : List ℕ → Bool
is_name [] = false
is_name (c ∷ cs) = is_letter c && list_all (λ b. is_letter b || (nat_le 48 b && nat_le b 58) || b == 45) cs

-- a name with its value
pub record Attribute : Type 0 where
  pub name : List ℕ
  pub value : List ℕ

-- an attribute behind a blank, its value in quotes
abbrev pub attribute_text : Attribute → List ℕ
attribute_text a = 32 ∷ a.name ++ codes "=\"" ++ a.value ++ codes "\""

-- names that differ, values of plain characters
abbrev pub AreAttributes : List Attribute → Type 0
AreAttributes [] = Unit {0}
AreAttributes (a ∷ others) = ((is_name a.name && not (list_any (λ b. bytes_eq b.name a.name) others)) ≡ true) × (list_all is_plain a.value ≡ true) × AreAttributes others

-- an element with its attributes and what is inside
abbrev pub element_text : List ℕ → List Attribute → List ℕ → List ℕ
element_text name attributes inside = codes "<" ++ name ++ flat_map attribute_text attributes ++ codes ">" ++ inside ++ codes "</" ++ name ++ codes ">"

-- what may stand inside an element
pub data IsContent : List ℕ → Type 0 where
  nothing : IsContent []
  plain : (c : ℕ) (rest : List ℕ) → is_plain c ≡ true → IsContent rest → IsContent (c ∷ rest)
  reference : (c : ℕ) (rest : List ℕ) → IsChar c → IsContent rest → IsContent (codes "&#" ++ decimal c ++ codes ";" ++ rest)
  element : (name : List ℕ) (attributes : List Attribute) (inside rest : List ℕ) → is_name name ≡ true → AreAttributes attributes → IsContent inside → IsContent rest → IsContent (element_text name attributes inside ++ rest)

-- a document: one element, and a line feed
pub record IsDocument (text : List ℕ) : Type 0 where
  pub name : List ℕ
  pub is_name : is_name name ≡ true
  pub attributes : List Attribute
  pub are_attributes : AreAttributes attributes
  pub inside : List ℕ
  pub is_content : IsContent inside
  pub is : text ≡ element_text name attributes inside ++ codes "\n"
