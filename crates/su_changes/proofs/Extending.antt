-- Definitions one after another: none extend a schema to itself, those of two steps extend it all the way, and one is an extension.
use Rattle.std.proofs.Common.{List, [], ◌++◌, refl, sym, ap, ◌∙◌, append_assoc}
use Rattle.std.proofs.lemmas.List.{append-nil}
use Rattle.su_schema.specs.SchemaValue.{SchemaValue}
use Rattle.su_schema.specs.declared.definitions.Definition.{Definition}
use Rattle.su_schema.specs.declared.definitions.Definition.TheVariants.{Attribute, Relation, Object, Fd, Maximal}
use Rattle.su_schema.specs.Definitions.{extended}
use Rattle.su_changes.specs.Extensions.{GoesOn, IsExtension}

pub GoesOn-self : {X : Type 0} (xs : List X) → GoesOn xs xs
GoesOn-self xs = ([], sym (append-nil xs))

pub GoesOn-then : {X : Type 0} (a b c : List X) → GoesOn a b → GoesOn b c → GoesOn a c
GoesOn-then {X} a b c (first, to_b) (second, to_c) = (first ++ second, to_c ∙ ap (λ (xs : List X). xs ++ second) to_b ∙ append_assoc a first second)

-- no definition
pub IsExtension-self : (schema : SchemaValue) → IsExtension schema schema
IsExtension-self schema = record {
  attributes = GoesOn-self schema.attributes;
  relations = GoesOn-self schema.relations;
  objects = GoesOn-self schema.objects;
  fds = GoesOn-self schema.fds;
  declared = GoesOn-self schema.declared;
}

-- those up to a schema, and then those from it on
pub IsExtension-then : (a b c : SchemaValue) → IsExtension a b → IsExtension b c → IsExtension a c
IsExtension-then a b c first second = record {
  attributes = GoesOn-then a.attributes b.attributes c.attributes first.attributes second.attributes;
  relations = GoesOn-then a.relations b.relations c.relations first.relations second.relations;
  objects = GoesOn-then a.objects b.objects c.objects first.objects second.objects;
  fds = GoesOn-then a.fds b.fds c.fds first.fds second.fds;
  declared = GoesOn-then a.declared b.declared c.declared first.declared second.declared;
}

-- one definition
pub IsExtension-one : (schema : SchemaValue) (definition : Definition) → IsExtension schema (extended schema definition)
IsExtension-one schema (Attribute name kind) = record {
  attributes = (_, refl);
  relations = GoesOn-self schema.relations;
  objects = GoesOn-self schema.objects;
  fds = GoesOn-self schema.fds;
  declared = GoesOn-self schema.declared;
}
IsExtension-one schema (Relation name columns) = record {
  attributes = GoesOn-self schema.attributes;
  relations = (_, refl);
  objects = GoesOn-self schema.objects;
  fds = GoesOn-self schema.fds;
  declared = GoesOn-self schema.declared;
}
IsExtension-one schema (Object name relation pairs) = record {
  attributes = GoesOn-self schema.attributes;
  relations = GoesOn-self schema.relations;
  objects = (_, refl);
  fds = GoesOn-self schema.fds;
  declared = GoesOn-self schema.declared;
}
IsExtension-one schema (Fd left right) = record {
  attributes = GoesOn-self schema.attributes;
  relations = GoesOn-self schema.relations;
  objects = GoesOn-self schema.objects;
  fds = (_, refl);
  declared = GoesOn-self schema.declared;
}
IsExtension-one schema (Maximal objects) = record {
  attributes = GoesOn-self schema.attributes;
  relations = GoesOn-self schema.relations;
  objects = GoesOn-self schema.objects;
  fds = GoesOn-self schema.fds;
  declared = (_, refl);
}
