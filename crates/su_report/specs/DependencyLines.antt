-- The lines about dependencies. A dependency is told as it is written, without its semicolon.
-- droppable: redundant, and nothing that is kept of stored rows goes with it; it is then advised to make a comment of it
use Rattle.std.specs.Prelude.{ℕ, List, [], ◌++◌, codes, Bool, if◌then◌else◌}
use Rattle.std.specs.FinSet.{union, difference, insert, empty}
use Rattle.su_fd.specs.declared.dependencies.Fd.{Fd}
use Rattle.su_schema.specs.SchemaValue.{SchemaValue}
use Rattle.su_schema.specs.Entries.{attribute_names, object_names}
use Rattle.su_ddl.specs.Shown.{line_of}
use Rattle.su_ddl.specs.ShownDefinitions.{name_at, names_in, fd_definition}
use Rattle.su_show.specs.Values.{fd_text}
use Rattle.su_report.specs.Advice.{object_of, advice}

-- an object that has all attributes of the dependency
abbrev pub keeper : SchemaValue → Fd → List ℕ
keeper schema f = advice (object_of (names_in (attribute_names schema) (union f.left f.right)))

-- it lies in no object
abbrev pub nowhere_lines : SchemaValue → Fd → List ℕ
nowhere_lines schema f = codes "fault fd " ++ fd_text schema f ++ codes " lies in no object\n" ++ keeper schema f

-- it follows from the others
abbrev pub redundant_lines : SchemaValue → Bool → Fd → List ℕ
redundant_lines schema droppable f =
    codes "note fd " ++ fd_text schema f ++ codes " follows from the others\n" ++ (if droppable then codes "  -- " ++ line_of (fd_definition schema f) else [])

-- the dependency without an attribute of its left side
abbrev pub shortened : Fd → ℕ → Fd
shortened f a = record { left = difference f.left (insert empty a); right = f.right }

-- it follows without that attribute
abbrev pub spare_lines : SchemaValue → Fd → ℕ → List ℕ
spare_lines schema f a =
    codes "note fd " ++ fd_text schema f ++ codes " follows without " ++ name_at (attribute_names schema) a ++ codes "\n" ++ advice (fd_definition schema (shortened f a))

-- it breaks the form of the object o
abbrev pub breaking_lines : SchemaValue → ℕ → Fd → List ℕ
breaking_lines schema o f =
    codes "note fd " ++ fd_text schema f ++ codes " breaks the form of Boyce and Codd in " ++ name_at (object_names schema) o ++ codes "\n" ++ keeper schema f
