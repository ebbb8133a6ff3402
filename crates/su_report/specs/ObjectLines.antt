-- The lines about the keys of an object, which is told by its number.
-- by all: by all dependencies; by its own: by those that lie in the object
use Rattle.std.specs.Prelude.{ℕ, List, ◌++◌, codes, flat_map, Option, Some, None}
use Rattle.std.specs.Ordering.{nat_cmp}
use Rattle.std.specs.FinSet.{FinSet}
use Rattle.su_lex.specs.Names.{names_symbols}
use Rattle.su_lex.specs.Spelling.{spaced}
use Rattle.su_schema.specs.SchemaValue.{SchemaValue}
use Rattle.su_schema.specs.Entries.{attribute_names, object_names}
use Rattle.su_ddl.specs.ShownDefinitions.{name_at, names_in}

-- the attributes of a set, with commas
abbrev pub listed : SchemaValue → FinSet nat_cmp → List ℕ
listed schema set = spaced (names_symbols (names_in (attribute_names schema) set))

-- a key of the object
abbrev pub key_line : SchemaValue → ℕ → List ℕ → FinSet nat_cmp → List ℕ
key_line schema o by key = codes "note key of " ++ name_at (object_names schema) o ++ by ++ codes ": " ++ listed schema key ++ codes "\n"

-- its keys, or that they weren't looked for
abbrev pub key_lines : SchemaValue → ℕ → List ℕ → Option (List (FinSet nat_cmp)) → List ℕ
key_lines schema o by (Some keys) = flat_map (key_line schema o by) keys
key_lines schema o by None = codes "note keys of " ++ name_at (object_names schema) o ++ by ++ codes " aren't looked for: more than 12 attributes may be in one\n"

-- the words for the dependencies that lie in the object
abbrev pub by_its_own : List ℕ
by_its_own = codes " by the dependencies in it"
