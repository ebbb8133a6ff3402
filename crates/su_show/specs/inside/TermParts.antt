-- Parts of the lines of a term: what a row is for, the attributes of a set, and the sources.
-- q: a query by numbers; r: a row by number, from 0; o: its origin, a variable and an object, by number; 32: a space
-- m: a tableau with its kept rows and fold; source: an object that may answer for a kept row
-- No public contract cites this module.
use Rattle.std.specs.Prelude.{ℕ, List, ◌∷◌, ◌++◌, length, codes, decimal}
use Rattle.std.specs.Ordering.{nat_cmp}
use Rattle.std.specs.FinSet.{FinSet}
use Rattle.su_map.specs.Lists.{row_numbers}
use Rattle.su_min.specs.Kept.{Minimised}
use Rattle.su_schema.specs.SchemaValue.{SchemaValue}
use Rattle.su_schema.specs.Entries.{object_names}
use Rattle.su_schema.specs.SetMembers.{numbers_in}
use Rattle.su_ddl.specs.ShownDefinitions.{name_at}
use Rattle.su_query.specs.declared.resolving.Resolved.{Resolved}
use Rattle.su_steps.specs.declared.results.Origin.{Origin}
use Rattle.su_show.specs.Lines.{AreLines}
use Rattle.su_show.specs.MinimalLines.{IsSourcesLine}
use Rattle.su_show.specs.QueryCauses.{variable_text}
use Rattle.su_show.specs.Symbols.{variable_at}

-- what a row is for: its number, and the variable and the object of its origin
abbrev pub origin_text : SchemaValue → Resolved → ℕ → Origin → List ℕ
origin_text schema q r o = codes "  row " ++ decimal r ++ 32 ∷ variable_text (variable_at q o.variable) ++ 32 ∷ name_at (object_names schema) o.object

-- the attributes of a set, in the order of declaration
abbrev pub attributes_of : SchemaValue → FinSet nat_cmp → List ℕ
attributes_of schema set = numbers_in set (length schema.attributes)

-- the lines of the kept rows and their sources
abbrev pub AreSourcesLines : SchemaValue → Minimised → List ℕ → Type 0
AreSourcesLines schema m text = AreLines (IsSourcesLine schema m) (row_numbers m.tableau m.mask) text
