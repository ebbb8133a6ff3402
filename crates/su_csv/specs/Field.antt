-- What a field of a CSV file stands for.
-- field: the bytes between two commas or line ends, quotes taken off; number: a '-' or none and one or more digits, for a whole number of 64 bits; text: UTF-8 of at most 4,096 bytes
use Rattle.std.specs.Prelude.{ℕ, ◌^◌, Bool, false, ◌&&◌, nat_lt, nat_le, if◌then◌else◌, List, [], ◌∷◌, length, drop, Option, Some, None, option_map, ℤ, pos, negsuc}
use Rattle.std.specs.Str.{is_utf8, all_ascii_digits}
use Rattle.std.specs.Str.Parse.{starts_with_minus, signed_digits_value}
use Rattle.su_base.specs.declared.values.Value.{Value}
use Rattle.su_base.specs.declared.values.Value.TheVariants.{Int, Text}
use Rattle.su_base.specs.declared.values.Kind.{Kind}
use Rattle.su_base.specs.declared.values.Kind.TheVariants.{Int as IntKind, Text as TextKind}

-- the most bytes of a text
abbrev pub text_limit : ℕ
text_limit = 4096

-- the field without a '-' at its start
abbrev pub digits_of : List ℕ → List ℕ
digits_of field = if starts_with_minus field then drop 1 field else field

-- one digit or more, and nothing else
abbrev pub is_digits : List ℕ → Bool
is_digits [] = false
is_digits (d ∷ ds) = all_ascii_digits (d ∷ ds)

-- from -2^63 to 2^63 - 1; negsuc n is -(n + 1)
abbrev pub in_range : ℤ → Bool
in_range (pos n) = nat_lt n (2 ^ 63)
in_range (negsuc n) = nat_lt n (2 ^ 63)

-- the number that a field writes, if it writes one
abbrev pub field_number : List ℕ → Option ℤ
field_number field = if is_digits (digits_of field) && in_range (signed_digits_value 10 field) then Some (signed_digits_value 10 field) else None

-- a field that may be a text: short enough, and UTF-8
abbrev pub is_text : List ℕ → Bool
is_text field = nat_le (length field) text_limit && is_utf8 field

-- the value of a field in a column of this kind, if it has one
abbrev pub field_value : Kind → List ℕ → Option Value
field_value IntKind field = option_map Int (field_number field)
field_value TextKind field = if is_text field then Some (Text field) else None
