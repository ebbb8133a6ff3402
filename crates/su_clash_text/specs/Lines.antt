-- The lines of a clash: the two constants and, behind two spaces, a line for each step.
-- step: two rows that agree on the left side of a dependency, by their values or by the lines above, and so on its right side
-- clash, member, step: as in su_clash
use Rattle.std.specs.Prelude.{ℕ, Bool, true, false, List, [], ◌++◌, codes, flat_map, get_or}
use Rattle.std.specs.Ordering.{nat_cmp}
use Rattle.std.specs.FinSet.{FinSet}
use Rattle.su_base.specs.declared.values.Value.{Value}
use Rattle.su_fd.specs.declared.dependencies.Fd.{Fd}
use Rattle.su_lex.specs.Names.{names_symbols}
use Rattle.su_lex.specs.Spelling.{spaced}
use Rattle.su_schema.specs.SchemaValue.{SchemaValue}
use Rattle.su_schema.specs.Entries.{attribute_names, object_names}
use Rattle.su_state.specs.DatabaseValue.{DatabaseValue}
use Rattle.su_ddl.specs.ShownDefinitions.{name_at, names_in}
use Rattle.su_show.specs.Values.{row_text, value_text}
use Rattle.su_window.specs.Padded.{member_read}
use Rattle.su_clash.specs.declared.members.Member.{Member}
use Rattle.su_clash.specs.declared.steps.Step.{Step}
use Rattle.su_clash.specs.declared.clashing.Clash.{Clash}
use Rattle.su_clash.specs.Derivations.{fd_of}
use Rattle.su_clash.specs.Clash.{reading_of}

-- the attributes of a set with commas
abbrev pub listed : SchemaValue → FinSet nat_cmp → List ℕ
listed schema set = spaced (names_symbols (names_in (attribute_names schema) set))

-- the values of a member, and its object
abbrev pub member_text : DatabaseValue → Member → List ℕ
member_text db m = row_text (member_read db (reading_of m)).values ++ codes " of " ++ name_at (object_names db.schema) m.object

-- the member with this number
abbrev pub member_at : List Member → ℕ → Member
member_at members i = get_or members i (record { object = 0; position = 0 })

-- the two rows of a step
abbrev pub rows_text : DatabaseValue → List Member → Step → List ℕ
rows_text db members s = member_text db (member_at members s.first) ++ codes " and " ++ member_text db (member_at members s.second)

-- the attributes on which they agree, and those on which they have to
abbrev pub sides_text : SchemaValue → Fd → List ℕ
sides_text schema fd = codes " agree on " ++ listed schema fd.left ++ codes ", so on " ++ listed schema fd.right

-- a step
abbrev pub step_line : DatabaseValue → List Member → Step → List ℕ
step_line db members s = codes "  " ++ rows_text db members s ++ sides_text db.schema (fd_of db.schema.fds s) ++ codes "\n"

-- the two constants
abbrev pub head_line : Value → Value → List ℕ
head_line one other = codes "fault no universal relation has these rows: " ++ value_text one ++ codes " and " ++ value_text other ++ codes " would be equal\n"

-- whether there may be a shorter list
abbrev pub rest_line : Bool → List ℕ
rest_line true = []
rest_line false = codes "  maybe not the shortest\n"

-- the lines of a clash
abbrev pub clash_lines : DatabaseValue → Clash → List ℕ
clash_lines db c = head_line c.one c.other ++ flat_map (step_line db c.members) c.steps ++ rest_line c.fewest
