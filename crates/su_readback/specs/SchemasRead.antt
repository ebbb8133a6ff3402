-- What is shown of a schema is read as what was shown.
-- shown: as in Schemas
use Rattle.std.specs.Prelude.{◌≡◌, ℕ, ◌≤◌, List, length, All}
use Rattle.std.specs.Ordering.{nat_cmp}
use Rattle.std.specs.FinSet.{FinSet}
use Rattle.su_schema.specs.SchemaValue.{SchemaValue}
use Rattle.su_schema.specs.Valid.{IsValid, IsSomeBelow}
use Rattle.su_show.specs.Replies.{schema_reply}
use Rattle.su_explained.specs.declared.reading.Line.{Line}
use Rattle.su_explained.specs.TextLines.{AreLinesOf}
use Rattle.su_readback.specs.Schemas.{schema_lines}

-- the reply with a schema and at most 1,000 maximal objects, each of them some objects, is read as their lines
abbrev pub SchemasAreRead : Type 0
SchemasAreRead =
    (schema : SchemaValue) (sets : List (FinSet nat_cmp)) → IsValid schema → length sets ≤ 1000 → All (IsSomeBelow (length schema.objects)) sets
    → AreLinesOf (schema_reply schema sets) (schema_lines schema sets)

-- a text is read as at most one list of lines
abbrev pub OneListOfLines : Type 0
OneListOfLines = (text : List ℕ) (lines others : List Line) → AreLinesOf text lines → AreLinesOf text others → lines ≡ others
