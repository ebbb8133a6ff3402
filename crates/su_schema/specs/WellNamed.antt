-- What a definition promises of its texts.
-- text: a name that the definition gives or uses
use Rattle.std.specs.Prelude.{map}
use Rattle.su_base.specs.Name.{IsName, AreNames}
use Rattle.su_schema.specs.declared.definitions.Definition.{Definition}
use Rattle.su_schema.specs.declared.definitions.Definition.TheVariants.{Attribute, Relation, Object, Fd, Maximal}
use Rattle.su_schema.specs.Entries.{column_names}

-- what a definition promises of its texts, so that a reader of the language may hand it over
abbrev pub IsWellNamed : Definition → Type 0
IsWellNamed (Attribute name kind) = IsName name
IsWellNamed (Relation name columns) = IsName name × AreNames (column_names columns)
IsWellNamed (Object name relation pairs) =
    IsName name × IsName relation × AreNames (map (λ p. p.attribute) pairs) × AreNames (map (λ p. p.column) pairs)
IsWellNamed (Fd left right) = AreNames left × AreNames right
IsWellNamed (Maximal objects) = AreNames objects
