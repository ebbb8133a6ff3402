-- A number for each value, and for each row, that never falls as these rise, so that a sort compares it first.
-- lead: of a whole number the number itself, held to 63 bits; of a text its first seven bytes, above all numbers'
-- No public contract cites this module.
use Rattle.std.specs.Prelude.{◌≡◌, ◌<◌, ◌+◌, ◌-◌, ◌*◌, ◌^◌, ℕ, ℤ, pos, negsuc, List, [], ◌∷◌, All, min}
use Rattle.std.proofs.Common.{zero, suc}
use Rattle.su_base.specs.declared.values.Value.{Value}
use Rattle.su_base.specs.declared.values.Value.TheVariants.{Int, Text}

-- from 0 to 2 ^ 63 - 1
abbrev pub sort_lead_of_number : ℤ → ℕ
sort_lead_of_number (pos n) = 2 ^ 62 + min n (2 ^ 62 - 1)
sort_lead_of_number (negsuc n) = 2 ^ 62 - min (n + 1) (2 ^ 62)

-- the first k bytes as one number, the first byte most
abbrev pub sort_lead_of_bytes : ℕ → List ℕ → ℕ
sort_lead_of_bytes zero bytes = 0
sort_lead_of_bytes (suc k) [] = 0
sort_lead_of_bytes (suc k) (b ∷ bytes) = b * 256 ^ k + sort_lead_of_bytes k bytes

-- the number is the value's lead
abbrev pub IsSortLead : ℕ → Value → Type 0
IsSortLead lead (Int z) = lead ≡ sort_lead_of_number z
IsSortLead lead (Text bytes) = (lead ≡ 2 ^ 63 + sort_lead_of_bytes 7 bytes) × All (λ b. b < 256) bytes

-- the number is the lead of the row's first value
abbrev pub IsRowLead : ℕ → List Value → Type 0
IsRowLead lead [] = lead ≡ 0
IsRowLead lead (value ∷ row) = IsSortLead lead value
