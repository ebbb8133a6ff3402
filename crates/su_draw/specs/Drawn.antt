-- What a word of a line is drawn as, by its place.
-- In a line of a row words 3, 4, 5 are its number, its variable and its object, and the others its cells.
-- drawn as: the kind of thing that shows the word in the picture; label: a word that is shown for itself
use Rattle.std.specs.Prelude.{ℕ, ◌-◌, ◌==◌, ◌&&◌, ◌||◌, nat_lt, nat_le, if◌then◌else◌, List, Option, Some, None}
use Rattle.su_explained.specs.declared.kinds.Kind.{Kind}
use Rattle.su_explained.specs.declared.kinds.Kind.TheVariants as kind
use Rattle.su_draw.specs.declared.things.What.{What}
use Rattle.su_draw.specs.declared.things.What.TheVariants.{Label, Row, Symbol, Fold, Source, Cover, Attribute, Object, Member, Part}
use Rattle.su_explained.specs.Checks.{is_decimal}
use Rattle.su_explained.specs.Definitions.{attribute_count_of}

-- what the words from this one on are drawn as
abbrev pub drawn_from : ℕ → What → ℕ → Option What
drawn_from first what k = if nat_le first k then Some what else None

-- drawn as this where the word stands at this place of its line
abbrev pub drawn_at : ℕ → What → ℕ → Option What
drawn_at place what k = if k == place then Some what else None

-- what word k of a row's line is drawn as: its number is no symbol
abbrev pub drawn_in_row : ℕ → Option What
drawn_in_row k = if k == 3 then Some Row else (if k == 4 || k == 5 then Some Label else drawn_from 6 Symbol k)

-- a row that goes to another one
abbrev pub drawn_in_fold : ℕ → List ℕ → Option What
drawn_in_fold k word = if nat_lt k 3 || is_decimal (k - 3) word then None else Some Fold

-- the number of the covering term, and the words round it
abbrev pub drawn_in_cover : ℕ → Option What
drawn_in_cover k = if k == 5 then Some Cover else drawn_from 2 Label k

-- the name and the attributes of an object with so many words
abbrev pub drawn_in_object : ℕ → ℕ → Option What
drawn_in_object n k = if k == 1 then Some Object else (if nat_le 2 k && nat_lt (k - 2) (attribute_count_of n) then Some Member else None)

-- the number of a maximal object, whether it is declared, its objects
abbrev pub drawn_in_maximal : ℕ → Option What
drawn_in_maximal k = if k == 3 || k == 4 then Some Label else drawn_from 5 Part k

-- what the word with this number is drawn as, in a line of this kind with so many words
abbrev pub drawn_as : Kind → ℕ → ℕ → List ℕ → Option What
drawn_as kind.Query n k word = Some Label
drawn_as kind.Variables n k word = Some Label
drawn_as kind.Term n k word = Some Label
drawn_as kind.Count n k word = Some Label
drawn_as kind.Head n k word = drawn_from 2 Label k
drawn_as kind.Compare n k word = drawn_from 2 Label k
drawn_as kind.Row n k word = drawn_in_row k
drawn_as kind.Kept n k word = None
drawn_as kind.Fold n k word = drawn_in_fold k word
drawn_as kind.Sources n k word = drawn_from 4 Source k
drawn_as kind.Covered n k word = drawn_in_cover k
drawn_as kind.Attribute n k word = drawn_at 1 Attribute k
drawn_as kind.Relation n k word = None
drawn_as kind.Object n k word = drawn_in_object n k
drawn_as kind.Dependency n k word = None
drawn_as kind.Declared n k word = None
drawn_as kind.Maximal n k word = drawn_in_maximal k
