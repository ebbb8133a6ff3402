-- Checks of names, in their order; the first that fails gives the refusal.
-- check: whether it fails and what is then answered; before: the names that were read already
use Rattle.std.specs.Prelude.{ℕ, Bool, not, nat_le, List, [], ◌∷◌, ◌++◌, length, Option, Some, None, if◌then◌else◌}
use Rattle.su_schema.specs.declared.faults.SchemaFault.{SchemaFault}
use Rattle.su_schema.specs.declared.faults.SchemaFault.TheVariants.{Twice, Unknown, Limit}
use Rattle.su_schema.specs.declared.faults.SchemaLimit.{SchemaLimit}
use Rattle.su_schema.specs.Known.{is_known}

-- whether a check fails, and with what fault
pub record Check : Type 0 where
  pub fails : Bool
  pub fault : SchemaFault

-- the fault of the first check that fails
abbrev pub first_failing : List Check → Option SchemaFault
first_failing [] = None
first_failing (check ∷ later) = if check.fails then Some check.fault else first_failing later

-- the name may not be there yet
abbrev pub new_name : List (List ℕ) → List ℕ → Check
new_name names name = record { fails = is_known names name; fault = Twice name }

-- the name must be there
abbrev pub old_name : List (List ℕ) → List ℕ → Check
old_name names name = record { fails = not (is_known names name); fault = Unknown name }

-- one more, where at most n may be there
abbrev pub room_for_one : {A : Type 0} → List A → ℕ → SchemaLimit → Check
room_for_one there n limit = record { fails = nat_le n (length there); fault = Limit limit }

-- no name twice, in their order
abbrev pub apart_checks : List (List ℕ) → List (List ℕ) → List Check
apart_checks before [] = []
apart_checks before (name ∷ names) = new_name before name ∷ apart_checks (before ++ name ∷ []) names

-- name by name: it is known, and it does not stand before
abbrev pub name_checks : List (List ℕ) → List (List ℕ) → List (List ℕ) → List Check
name_checks known before [] = []
name_checks known before (name ∷ names) = old_name known name ∷ new_name before name ∷ name_checks known (before ++ name ∷ []) names
