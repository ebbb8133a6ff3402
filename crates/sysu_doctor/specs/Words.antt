-- What the words of the command line ask for.
use Rattle.std.specs.Prelude.{ℕ, List, [], ◌∷◌, Option, Some, None, codes}

-- the schema's file, and the script's where one is named
pub record Named : Type 0 where
  pub schema : List ℕ
  pub script : Option (List ℕ)

-- what the words ask for, where they are `SCHEMA` or `SCHEMA SCRIPT`
abbrev pub named : List (List ℕ) → Option Named
named (schema ∷ []) = Some (record { schema = schema; script = None })
named (schema ∷ script ∷ []) = Some (record { schema = schema; script = Some script })
named words = None

-- what is written for words of any other form
abbrev pub usage_line : List ℕ
usage_line = codes "usage: sysu_doctor SCHEMA [SCRIPT]\n"
