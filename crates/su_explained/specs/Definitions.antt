-- What the words of a line of a schema must be.
-- Words are counted from 0; maximal objects are numbered from 0.
-- to fit: to have the words that such a line has, whatever names they are
use Rattle.std.specs.Prelude.{ℕ, ◌+◌, ◌-◌, ◌*◌, ◌/◌, ◌==◌, ◌&&◌, ◌||◌, Bool, false, List, [], ◌∷◌, length, take, drop, codes}
use Rattle.std.specs.Str.{bytes_eq}
use Rattle.su_explained.specs.declared.states.State.{State}
use Rattle.su_explained.specs.Checks.{is_decimal, listed}

-- `attribute NAME KIND;`
abbrev pub attribute_fits : List (List ℕ) → Bool
attribute_fits (w ∷ name ∷ kind ∷ []) = bytes_eq kind (codes "int;") || bytes_eq kind (codes "text;")
attribute_fits _ = false

-- how many attributes an object with so many words has
abbrev pub attribute_count_of : ℕ → ℕ
attribute_count_of words = (words - 4) / 2

-- behind the attributes: `from RELATION (COLUMN, ..);`; 59 is a semicolon
unfoldable pub columns_fit : List (List ℕ) → Bool
columns_fit (from ∷ relation ∷ columns) = bytes_eq from (codes "from") && listed 59 columns
columns_fit _ = false

-- `object NAME (ATTRIBUTE, ..) from RELATION (COLUMN, ..);`, as many columns as attributes; 41 is a closing parenthesis
abbrev pub object_fits : List (List ℕ) → Bool
object_fits words =
    let n = attribute_count_of (length words) in
    (length words == 2 * n + 4) && listed 41 (take n (drop 2 words)) && columns_fit (drop n (drop 2 words))

-- says where a maximal object comes from
unfoldable pub is_origin_word : List ℕ → Bool
is_origin_word word = bytes_eq word (codes "declared") || bytes_eq word (codes "computed")

-- `K declared OBJECT ..`, or `computed`
unfoldable pub is_maximal_object : State → List (List ℕ) → Bool
is_maximal_object s (number ∷ kind ∷ name ∷ names) = is_decimal s.maximal number && is_origin_word kind
is_maximal_object s _ = false

-- `-- maximal object` and what it is
abbrev pub maximal_fits : State → List (List ℕ) → Bool
maximal_fits s (w ∷ maximal ∷ object ∷ words) = bytes_eq maximal (codes "maximal") && bytes_eq object (codes "object") && is_maximal_object s words
maximal_fits s _ = false
