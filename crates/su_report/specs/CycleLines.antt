-- The lines about a maximal object, which is told by its number.
-- order: its objects as they are taken apart; core: the objects that are left of a cyclic one
use Rattle.std.specs.Prelude.{ℕ, List, [], ◌++◌, codes, decimal, flat_map, length, map, nat_lt, if◌then◌else◌, Option, Some, None}
use Rattle.std.specs.Ordering.{nat_cmp}
use Rattle.std.specs.FinSet.{FinSet}
use Rattle.su_lex.specs.Names.{names_symbols}
use Rattle.su_lex.specs.Spelling.{spaced}
use Rattle.su_schema.specs.SchemaValue.{SchemaValue}
use Rattle.su_schema.specs.Entries.{attribute_names, object_names}
use Rattle.su_ddl.specs.ShownDefinitions.{name_at}
use Rattle.su_report.specs.ObjectLines.{listed}
use Rattle.su_show.specs.Values.{behind_spaces, objects_text}

-- it is acyclic
abbrev pub acyclic_line : SchemaValue → ℕ → List ℕ → List ℕ
acyclic_line schema k order = codes "note maximal object " ++ decimal k ++ codes " is acyclic:" ++ behind_spaces (map (name_at (object_names schema)) order) ++ codes "\n"

-- it has a cycle
abbrev pub cyclic_line : SchemaValue → ℕ → FinSet nat_cmp → List ℕ
cyclic_line schema k core = codes "fault maximal object " ++ decimal k ++ codes " has a cycle:" ++ objects_text schema core ++ codes "\n"

-- the objects of the core that have the attribute, where they are several
abbrev pub meeting_line : SchemaValue → ℕ → List ℕ → List ℕ
meeting_line schema a objects =
    if nat_lt 1 (length objects) then
    codes "  " ++ spaced (names_symbols (map (name_at (object_names schema)) objects)) ++ codes " meet in " ++ name_at (attribute_names schema) a ++ codes "\n"
    else []

-- attributes without which it has none
abbrev pub breaker_line : SchemaValue → FinSet nat_cmp → List ℕ
breaker_line schema set = codes "  acyclic without " ++ listed schema set ++ codes "\n"

-- the least sets of these, or that they weren't looked for
abbrev pub breaker_lines : SchemaValue → Option (List (FinSet nat_cmp)) → List ℕ
breaker_lines schema (Some sets) = flat_map (breaker_line schema) sets
breaker_lines schema None = codes "  more than 12 attributes meet\n"
