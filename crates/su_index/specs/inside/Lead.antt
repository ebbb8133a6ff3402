-- A number for each value, the same for equal values, so that a sort and a search compare it first.
-- lead: of a whole number its size, of a text a number made of all its bytes, each modulo 2 ^ 32
-- No public contract cites this module.
use Rattle.std.specs.Prelude.{◌≡◌, ◌+◌, ◌*◌, ◌%◌, ◌^◌, ℕ, ℤ, List, fold, unsigned_abs}
use Rattle.su_base.specs.declared.values.Value.{Value}
use Rattle.su_base.specs.declared.values.Value.TheVariants.{Int, Text}

-- the number without its sign, modulo 2^32
abbrev pub lead_of_number : ℤ → ℕ
lead_of_number z = unsigned_abs z % 2 ^ 32

-- the bytes as the digits of a number to the base 65599
abbrev pub lead_of_bytes : List ℕ → ℕ
lead_of_bytes bytes = fold (λ lead b. (lead * 65599 + b) % 2 ^ 32) 0 bytes

-- the lead of a value
abbrev pub lead_of : Value → ℕ
lead_of (Int z) = lead_of_number z
lead_of (Text bytes) = lead_of_bytes bytes

-- the number is the value's lead
abbrev pub IsLead : ℕ → Value → Type 0
IsLead lead value = lead ≡ lead_of value
