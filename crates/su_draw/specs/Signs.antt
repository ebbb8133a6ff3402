-- The legend: a line for each sign that stands in a picture.
-- sign: what a line of the legend explains; shown: a shape of the picture has it
use Rattle.std.specs.Prelude.{ℕ, ◌==◌, ◌&&◌, not, Bool, true, false, List, [], ◌∷◌, filter, map, codes}
use Rattle.std.specs.List.{list_any}
use Rattle.su_draw.specs.declared.things.What.{What}
use Rattle.su_draw.specs.declared.things.What.TheVariants.{Row, Symbol, Fold, Source, Cover, Member, Part}
use Rattle.su_draw.specs.declared.shapes.Shape.{Shape}
use Rattle.su_draw.specs.declared.shapes.Note.{Note}
use Rattle.su_draw.specs.declared.signs.Sign.{Sign}
use Rattle.su_draw.specs.declared.signs.Sign.TheVariants as sign

-- a row's number
abbrev pub is_number : What → Bool
is_number Row = true
is_number _ = false

-- a cell's symbol
abbrev pub is_symbol : What → Bool
is_symbol Symbol = true
is_symbol _ = false

-- an arrow of a fold
abbrev pub is_fold : What → Bool
is_fold Fold = true
is_fold _ = false

-- a source
abbrev pub is_source : What → Bool
is_source Source = true
is_source _ = false

-- an arrow to a term that covers
abbrev pub is_cover : What → Bool
is_cover Cover = true
is_cover _ = false

-- a dot or a ring
abbrev pub is_member : What → Bool
is_member Member = true
is_member _ = false

-- a square
abbrev pub is_part : What → Bool
is_part Part = true
is_part _ = false

-- the shape has the sign
abbrev pub shows : Sign → Shape → Bool
shows sign.Kept s = is_number s.thing.what && not s.place.light
shows sign.Pale s = is_number s.thing.what && s.place.light
shows sign.Arrow s = is_fold s.thing.what
shows sign.Mark s = is_symbol s.thing.what && not (s.place.mark == 0)
shows sign.From s = is_source s.thing.what
shows sign.Cover s = is_cover s.thing.what
shows sign.Dot s = is_member s.thing.what && (s.place.mark == 0)
shows sign.Ring s = is_member s.thing.what && not (s.place.mark == 0)
shows sign.Square s = is_part s.thing.what

-- all signs
abbrev pub all_signs : List Sign
all_signs = sign.Kept ∷ sign.Pale ∷ sign.Arrow ∷ sign.Mark ∷ sign.From ∷ sign.Cover ∷ sign.Dot ∷ sign.Ring ∷ sign.Square ∷ []

-- those that a shape has
abbrev pub signs_in : List Shape → List Sign
signs_in shapes = filter (λ g. list_any (shows g) shapes) all_signs

-- the signs of a legend's lines
abbrev pub signs_of : List Note → List Sign
signs_of notes = map (λ n. n.sign) notes

-- the line of the legend
abbrev pub text_of : Sign → List ℕ
text_of sign.Kept = codes "bold on a ground: a kept row"
text_of sign.Pale = codes "pale: a row that isn't kept"
text_of sign.Arrow = codes "arrow: from a row to the one that answers for it"
text_of sign.Mark = codes "small number: one symbol in several cells of the term"
text_of sign.From = codes "read from: the objects that hold a kept row's values"
text_of sign.Cover = codes "arrow at the left: from a term to the one that covers it"
text_of sign.Dot = codes "dot: the object has the attribute"
text_of sign.Ring = codes "ring: the object has the attribute, and is in the core of a cycle"
text_of sign.Square = codes "square: the object is in the maximal object"
