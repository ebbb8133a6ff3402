-- How a text looks: its attributes of colour and weight.
-- look: the attributes of colour and weight; light: paler, as what isn't kept; bold: the number and the symbols of a row that isn't light
-- class: the name by which a style gives a colour, one for a light scheme and one for a dark one
use Rattle.std.specs.Prelude.{ℕ, ◌==◌, ◌%◌, if◌then◌else◌, Bool, true, false, List, codes, decimal}
use Rattle.su_draw.specs.declared.things.What.{What}
use Rattle.su_draw.specs.declared.things.What.TheVariants.{Row, Symbol}
use Rattle.su_draw.specs.Xml.{Attribute}

-- an attribute with a word
abbrev pub word_of : List ℕ → List ℕ → Attribute
word_of name value = record { name = name; value = value }

-- an attribute with a number
abbrev pub number_attribute : List ℕ → ℕ → Attribute
number_attribute name n = word_of name (decimal n)

-- the class of a mark; without one it is that of all texts
abbrev pub class_of : ℕ → List ℕ
class_of mark =
    if mark == 0 then codes "c0" else
    (if mark % 7 == 1 then codes "c1" else
    (if mark % 7 == 2 then codes "c2" else
    (if mark % 7 == 3 then codes "c3" else
    (if mark % 7 == 4 then codes "c4" else
    (if mark % 7 == 5 then codes "c5" else
    (if mark % 7 == 6 then codes "c6" else codes "c7"))))))

-- what is light is paler
abbrev pub opacity_of : Bool → List ℕ
opacity_of true = codes "0.6"
opacity_of false = codes "1"

-- the number and the symbols of a row are bold where they aren't light
abbrev pub weight_of : What → Bool → List ℕ
weight_of Row false = codes "bold"
weight_of Symbol false = codes "bold"
weight_of _ _ = codes "normal"

-- the style: the colours of a light scheme, and those of a dark one where the page has that
abbrev pub style_text : List ℕ
style_text = codes ".ground{fill:#fff}.band{fill:#e4e4e4}.arrow{fill:none;stroke:#555}.rule{stroke:#999}.ring{fill:#fff;stroke:#a01818;stroke-width:3}.c0{fill:#000}.c1{fill:#0b4f9e}.c2{fill:#a01818}.c3{fill:#1b6b1b}.c4{fill:#7a3d9e}.c5{fill:#7a4f00}.c6{fill:#00666b}.c7{fill:#a0266b}@media(prefers-color-scheme:dark){.ground{fill:#161616}.band{fill:#383838}.arrow{stroke:#b8b8b8}.rule{stroke:#888}.ring{fill:#161616;stroke:#ff9d9d}.c0{fill:#f2f2f2}.c1{fill:#8fc1ff}.c2{fill:#ff9d9d}.c3{fill:#8fe08f}.c4{fill:#dcb0ff}.c5{fill:#f0c060}.c6{fill:#6fdfe4}.c7{fill:#ff9ccb}}"
