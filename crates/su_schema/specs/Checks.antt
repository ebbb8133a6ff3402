-- The checks that a definition passes before it is added, in their order; the first that fails gives the refusal.
-- check: whether it fails and what is then answered; known: a name among names; before: the names that were read already
use Rattle.std.specs.Prelude.{not, nat_lt, List, [], ◌∷◌, ◌++◌, length, map}
use Rattle.su_base.specs.declared.values.Column.{Column}
use Rattle.su_base.specs.Value.{same_kind}
use Rattle.su_schema.specs.declared.faults.SchemaFault.TheVariants.{KindDiffers, Limit}
use Rattle.su_schema.specs.declared.faults.SchemaLimit.TheVariants.{Attributes, Relations, Columns, Objects, Fds, Maximal as MaximalSets}
use Rattle.su_schema.specs.declared.definitions.Pair.{Pair}
use Rattle.su_schema.specs.declared.definitions.Definition.{Definition}
use Rattle.su_schema.specs.declared.definitions.Definition.TheVariants.{Attribute, Relation, Object, Fd, Maximal}
use Rattle.su_schema.specs.SchemaValue.{SchemaValue}
use Rattle.su_schema.specs.Entries.{attribute_names, relation_names, column_names, object_names}
use Rattle.su_schema.specs.NameChecks.{Check, new_name, old_name, room_for_one, apart_checks, name_checks}
use Rattle.su_schema.specs.Known.{number_of, columns_at, attribute_kind, column_kind}

-- the attribute and the column of a pair are of one kind
abbrev pub one_kind : SchemaValue → List Column → Pair → Check
one_kind schema columns pair = record {
  fails = not (same_kind (attribute_kind schema pair.attribute) (column_kind columns pair.column));
  fault = KindDiffers pair.attribute pair.column;
}

-- both names of a pair are known
abbrev pub known_checks : SchemaValue → List Column → Pair → List Check
known_checks schema columns pair = old_name (attribute_names schema) pair.attribute ∷ old_name (column_names columns) pair.column ∷ []

-- neither name of a pair stands before
abbrev pub fresh_checks : List Pair → Pair → List Check
fresh_checks before pair = new_name (map (λ p. p.attribute) before) pair.attribute ∷ new_name (map (λ p. p.column) before) pair.column ∷ []

-- pair by pair: both names are known, neither stands before, and the kinds are equal
abbrev pub pair_checks : SchemaValue → List Column → List Pair → List Pair → List Check
pair_checks schema columns before [] = []
pair_checks schema columns before (pair ∷ pairs) =
    known_checks schema columns pair ++ fresh_checks before pair ++ one_kind schema columns pair ∷ pair_checks schema columns (before ++ pair ∷ []) pairs

-- the checks of a definition, in their order
abbrev pub checks : SchemaValue → Definition → List Check
checks schema (Attribute name kind) =
    new_name (attribute_names schema) name
    ∷ room_for_one schema.attributes 128 Attributes
    ∷ []
checks schema (Relation name columns) =
    new_name (relation_names schema) name
    ∷ room_for_one schema.relations 64 Relations
    ∷ (record { fails = nat_lt 32 (length columns); fault = Limit Columns })
    ∷ apart_checks [] (column_names columns)
checks schema (Object name relation pairs) =
    new_name (object_names schema) name
    ∷ room_for_one schema.objects 64 Objects
    ∷ old_name (relation_names schema) relation
    ∷ pair_checks schema (columns_at schema (number_of (relation_names schema) relation)) [] pairs
checks schema (Fd left right) =
    room_for_one schema.fds 256 Fds
    ∷ name_checks (attribute_names schema) [] left ++ name_checks (attribute_names schema) [] right
checks schema (Maximal objects) =
    room_for_one schema.declared 64 MaximalSets
    ∷ name_checks (object_names schema) [] objects
