-- The lines about pairs of attributes, which are told by number.
-- covers: the numbers of the maximal objects that have both
use Rattle.std.specs.Prelude.{ℕ, List, [], ◌++◌, codes, length, nat_lt, if◌then◌else◌}
use Rattle.su_lex.specs.Wordings.{numbers_text}
use Rattle.su_schema.specs.SchemaValue.{SchemaValue}
use Rattle.su_schema.specs.Entries.{attribute_names}
use Rattle.su_ddl.specs.ShownDefinitions.{name_at}

-- no maximal object has both
abbrev pub uncovered_line : SchemaValue → ℕ → ℕ → List ℕ
uncovered_line schema a b =
    codes "note " ++ name_at (attribute_names schema) a ++ codes " and " ++ name_at (attribute_names schema) b ++ codes " are in no maximal object\n"

-- several have both, or nothing
abbrev pub covered_line : SchemaValue → ℕ → ℕ → List ℕ → List ℕ
covered_line schema a b covers =
    if nat_lt 1 (length covers) then
    codes "note " ++ name_at (attribute_names schema) a ++ codes " and " ++ name_at (attribute_names schema) b ++ codes " are in maximal objects"
    ++ numbers_text covers ++ codes "\n"
    else []
