-- The lines of what joins and what dangles: a line for each object of a maximal object or of its core and, behind two spaces, the least of its rows that dangle.
-- scope: objects whose views are joined: those of a maximal object, which is told by its number, or of its core
use Rattle.std.specs.Prelude.{ℕ, ◌≡◌, Bool, true, false, List, ◌++◌, codes, decimal, flat_map}
use Rattle.su_base.specs.declared.values.Value.{Value}
use Rattle.su_schema.specs.SchemaValue.{SchemaValue}
use Rattle.su_schema.specs.Entries.{object_names}
use Rattle.su_state.specs.DatabaseValue.{DatabaseValue}
use Rattle.su_ddl.specs.ShownDefinitions.{name_at}
use Rattle.su_show.specs.Values.{row_text}
use Rattle.su_show.specs.Lines.{AreLines}
use Rattle.su_dangling.specs.declared.counting.Dangling.{Dangling}
use Rattle.su_dangling.specs.Dangling.{AreCounted}
use Rattle.su_dangling_text.specs.declared.scopes.Scope.{Scope}

-- what the objects of the scope are
abbrev pub place_text : Bool → List ℕ
place_text true = codes "note core of maximal object "
place_text false = codes "note maximal object "

-- the scope
abbrev pub scope_text : Scope → List ℕ
scope_text scope = place_text scope.core ++ decimal scope.maximal ++ codes ": "

-- how many of the object's rows are in the join
abbrev pub joined_text : SchemaValue → Dangling → List ℕ
joined_text schema d = decimal d.joined ++ codes " of " ++ decimal d.rows ++ codes " rows of " ++ name_at (object_names schema) d.object

-- how many aren't
abbrev pub left_text : Dangling → List ℕ
left_text d = codes " are in the join of all its objects, " ++ decimal d.dangling ++ codes " are not\n"

-- a row of a view
abbrev pub row_line : List Value → List ℕ
row_line row = codes "  " ++ row_text row ++ codes "\n"

-- an object: how many of its rows are in the join, how many aren't, and the least of these
abbrev pub object_lines : SchemaValue → Scope → Dangling → List ℕ
object_lines schema scope d = scope_text scope ++ joined_text schema d ++ left_text d ++ flat_map row_line d.least

-- the objects of a scope, in the order of declaration
abbrev pub LinesOf : DatabaseValue → Scope → List ℕ → Type 0
LinesOf db scope text = (found : List Dangling) × AreCounted db scope.objects found × (text ≡ flat_map (object_lines db.schema scope) found)

-- those of all scopes, one after another
abbrev pub IsDanglingText : DatabaseValue → List Scope → List ℕ → Type 0
IsDanglingText db scopes text = AreLines (LinesOf db) scopes text
