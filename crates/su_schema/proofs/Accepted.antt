-- A definition whose checks pass is accepted, and leaves a valid schema valid; one whose checks fail is refused.
use Rattle.std.proofs.Common.{◌≡◌, ◌<◌, ◌≤◌, ℕ, false, not, List, [], ◌∷◌, ◌++◌, length, Some, None, refl, sym, ap, subst, nat_le, nat_lt, length-append, arith}
use Rattle.std.specs.Prelude.{Ok, Err}
use lib.ListN.{length-map}
use Rattle.std.proofs.lemmas.Bool.Decides.{nat_tests}
use Rattle.std.proofs.lemmas.List.{map-append}
use Rattle.std.proofs.lemmas.List.Elements.{All-push}
use Rattle.su_base.specs.declared.values.Kind.{Kind}
use Rattle.su_base.specs.declared.values.Column.{Column}
use Rattle.su_base.specs.Name.{IsName}
use Rattle.std.proofs.lemmas.Bool.{not-false}
use Rattle.su_schema.specs.declared.faults.SchemaFault.{SchemaFault}
use Rattle.su_schema.specs.declared.definitions.Pair.{Pair}
use Rattle.su_schema.specs.declared.definitions.Definition.{Definition}
use Rattle.su_schema.specs.declared.definitions.Definition.TheVariants.{Attribute, Relation, Object, Fd, Maximal}
use Rattle.su_schema.specs.SchemaValue.{SchemaValue, AttributeEntry, RelationEntry, ObjectEntry}
use Rattle.su_schema.specs.Valid.{IsValid, IsRelationEntry, IsObject, IsDependency, IsSomeBelow}
use Rattle.su_schema.specs.Entries.{attribute_names, relation_names, object_names, column_names}
use Rattle.su_schema.specs.NameChecks.{first_failing, name_checks}
use Rattle.su_schema.specs.Known.{is_known, number_of, columns_at}
use Rattle.su_schema.specs.Checks.{checks}
use Rattle.su_schema.specs.Definitions.{applied, extended, numbers_of, links_of}
use Rattle.su_schema.specs.WellNamed.{IsWellNamed}
use Rattle.su_schema.proofs.Validity.{pass, passed_both, slice_get-grows, names_more, apart_names, object_more, IsSomeBelow-more, dependency_more, numbers_some}
use Rattle.su_schema.proofs.ObjectValid.{relation_there, joined, ordered, some_links}

pub accepted : (schema next : SchemaValue) (definition : Definition) → first_failing (checks schema definition) ≡ None → next ≡ extended schema definition → applied schema definition ≡ Ok next
accepted schema next definition none is = rw none (ap Ok (sym is))

pub is_refused : (schema : SchemaValue) (definition : Definition) (fault : SchemaFault) → first_failing (checks schema definition) ≡ Some fault → applied schema definition ≡ Err fault
is_refused schema definition fault fails = rw fails refl

-- one more is at most n, where fewer than n are there
one_more : {X : Type 0} (xs : List X) (x : X) (n : ℕ) → nat_le n (length xs) ≡ false → length (xs ++ x ∷ []) ≤ n
one_more xs x n room = rw length-append (grind (arith, nat_tests, room))

valid_attribute : (schema : SchemaValue) (name : List ℕ) (kind : Kind) → IsName name → IsValid schema → first_failing (checks schema (Attribute name kind)) ≡ None → IsValid (extended schema (Attribute name kind))
valid_attribute schema name kind is_name valid h =
    let new = pass (is_known (attribute_names schema) name) _ _ h in
    let room = pass (nat_le 128 (length schema.attributes)) _ _ new.1 in
    let entry : AttributeEntry = record { name = name; kind = kind } in
    let longer : length schema.attributes ≤ length (schema.attributes ++ entry ∷ []) = rw length-append (omega arith) in
    record {
      attribute_names = rw map-append (names_more (attribute_names schema) name valid.attribute_names is_name new.0);
      few_attributes = one_more schema.attributes entry 128 room.0;
      relation_names = valid.relation_names;
      few_relations = valid.few_relations;
      relations = valid.relations;
      object_names = valid.object_names;
      few_objects = valid.few_objects;
      objects = λ k d within. object_more schema (extended schema (Attribute name kind)) (λ i x at. slice_get-grows schema.attributes (entry ∷ []) i x at) (λ i x at. at) _ (valid.objects k d within);
      few_fds = valid.few_fds;
      fds = λ k d within. dependency_more schema (extended schema (Attribute name kind)) _ longer (valid.fds k d within);
      few_declared = valid.few_declared;
      declared = valid.declared;
    }

valid_relation : (schema : SchemaValue) (name : List ℕ) (columns : List Column) → IsWellNamed (Relation name columns) → IsValid schema → first_failing (checks schema (Relation name columns)) ≡ None → IsValid (extended schema (Relation name columns))
valid_relation schema name columns well valid h =
    let new = pass (is_known (relation_names schema) name) _ _ h in
    let room = pass (nat_le 64 (length schema.relations)) _ _ new.1 in
    let few = pass (nat_lt 32 (length columns)) _ _ room.1 in
    let entry : RelationEntry = record { name = name; columns = columns } in
    let is : IsRelationEntry entry = record {
      some = rw (← length-map columns (λ c. c.name)) well.1.some;
      few = grind (arith, nat_tests, few.0);
      columns = record { named = well.1.named; apart = apart_names [] (column_names columns) (λ i j d less within. absurd (omega arith)) few.1 };
    } in
    record {
      attribute_names = valid.attribute_names;
      few_attributes = valid.few_attributes;
      relation_names = rw map-append (names_more (relation_names schema) name valid.relation_names well.0 new.0);
      few_relations = one_more schema.relations entry 64 room.0;
      relations = All-push IsRelationEntry schema.relations entry valid.relations is;
      object_names = valid.object_names;
      few_objects = valid.few_objects;
      objects = λ k d within. object_more schema (extended schema (Relation name columns)) (λ i x at. at) (λ i x at. slice_get-grows schema.relations (entry ∷ []) i x at) _ (valid.objects k d within);
      few_fds = valid.few_fds;
      fds = λ k d within. dependency_more schema (extended schema (Relation name columns)) _ (omega arith) (valid.fds k d within);
      few_declared = valid.few_declared;
      declared = valid.declared;
    }

valid_object : (schema : SchemaValue) (name relation : List ℕ) (pairs : List Pair) → IsWellNamed (Object name relation pairs) → IsValid schema → first_failing (checks schema (Object name relation pairs)) ≡ None → IsValid (extended schema (Object name relation pairs))
valid_object schema name relation pairs well valid h =
    let new = pass (is_known (object_names schema) name) _ _ h in
    let room = pass (nat_le 64 (length schema.objects)) _ _ new.1 in
    let old = pass (not (is_known (relation_names schema) relation)) _ _ room.1 in
    let r : ℕ = number_of (relation_names schema) relation in
    let columns : List Column = columns_at schema r in
    let given : 0 < length pairs = rw (← length-map pairs (λ p. p.attribute)) well.2.some in
    let there = relation_there schema relation (not-false (is_known (relation_names schema) relation) old.0) in
    let entry : ObjectEntry = record { name = name; relation = r; links = links_of schema columns pairs } in
    let next : SchemaValue = extended schema (Object name relation pairs) in
    let is : IsObject schema entry = record {
      relation = there.0;
      stored = there.1;
      some = some_links schema columns pairs given old.1;
      joined = rw (← there.2) (joined schema columns pairs given old.1);
      ascending = λ i j d less within. (ordered schema columns pairs given old.1 i j d less within).less;
      apart = λ i j d less within. (ordered schema columns pairs given old.1 i j d less within).apart;
    } in
    record {
      attribute_names = valid.attribute_names;
      few_attributes = valid.few_attributes;
      relation_names = valid.relation_names;
      few_relations = valid.few_relations;
      relations = valid.relations;
      object_names = rw map-append (names_more (object_names schema) name valid.object_names well.0 new.0);
      few_objects = one_more schema.objects entry 64 room.0;
      objects = All-push (IsObject next) schema.objects entry (λ k d within. object_more schema next (λ i x at. at) (λ i x at. at) _ (valid.objects k d within)) (object_more schema next (λ i x at. at) (λ i x at. at) entry is);
      few_fds = valid.few_fds;
      fds = λ k d within. dependency_more schema next _ (omega arith) (valid.fds k d within);
      few_declared = valid.few_declared;
      declared = λ k d within. IsSomeBelow-more (length schema.objects) (length next.objects) _ (rw length-append (omega arith)) (valid.declared k d within);
    }

valid_fd : (schema : SchemaValue) (left right : List (List ℕ)) → IsWellNamed (Fd left right) → IsValid schema → first_failing (checks schema (Fd left right)) ≡ None → IsValid (extended schema (Fd left right))
valid_fd schema left right well valid h =
    let room = pass (nat_le 256 (length schema.fds)) _ _ h in
    let both = passed_both (name_checks (attribute_names schema) [] left) (name_checks (attribute_names schema) [] right) room.1 in
    let next : SchemaValue = extended schema (Fd left right) in
    let is : IsDependency next (record { left = numbers_of (attribute_names schema) left; right = numbers_of (attribute_names schema) right }) = record {
      left = subst (λ (n : ℕ). IsSomeBelow n (numbers_of (attribute_names schema) left)) (length-map schema.attributes (λ a. a.name)) (numbers_some (attribute_names schema) left well.0.some both.0);
      right = subst (λ (n : ℕ). IsSomeBelow n (numbers_of (attribute_names schema) right)) (length-map schema.attributes (λ a. a.name)) (numbers_some (attribute_names schema) right well.1.some both.1);
    } in
    record {
      attribute_names = valid.attribute_names;
      few_attributes = valid.few_attributes;
      relation_names = valid.relation_names;
      few_relations = valid.few_relations;
      relations = valid.relations;
      object_names = valid.object_names;
      few_objects = valid.few_objects;
      objects = λ k d within. object_more schema next (λ i x at. at) (λ i x at. at) _ (valid.objects k d within);
      few_fds = one_more schema.fds _ 256 room.0;
      fds = All-push (IsDependency next) schema.fds _ (λ k d within. dependency_more schema next _ (omega arith) (valid.fds k d within)) is;
      few_declared = valid.few_declared;
      declared = valid.declared;
    }

valid_maximal : (schema : SchemaValue) (objects : List (List ℕ)) → IsWellNamed (Maximal objects) → IsValid schema → first_failing (checks schema (Maximal objects)) ≡ None → IsValid (extended schema (Maximal objects))
valid_maximal schema objects well valid h =
    let room = pass (nat_le 64 (length schema.declared)) _ _ h in
    let next : SchemaValue = extended schema (Maximal objects) in
    let is : IsSomeBelow (length schema.objects) (numbers_of (object_names schema) objects) = subst (λ (n : ℕ). IsSomeBelow n (numbers_of (object_names schema) objects)) (length-map schema.objects (λ o. o.name)) (numbers_some (object_names schema) objects well.some room.1) in
    record {
      attribute_names = valid.attribute_names;
      few_attributes = valid.few_attributes;
      relation_names = valid.relation_names;
      few_relations = valid.few_relations;
      relations = valid.relations;
      object_names = valid.object_names;
      few_objects = valid.few_objects;
      objects = λ k d within. object_more schema next (λ i x at. at) (λ i x at. at) _ (valid.objects k d within);
      few_fds = valid.few_fds;
      fds = λ k d within. dependency_more schema next _ (omega arith) (valid.fds k d within);
      few_declared = one_more schema.declared _ 64 room.0;
      declared = All-push (IsSomeBelow (length schema.objects)) schema.declared _ valid.declared is;
    }

-- the schema with a definition whose checks pass is valid
pub valid_extended : (schema : SchemaValue) (definition : Definition) → IsWellNamed definition → IsValid schema → first_failing (checks schema definition) ≡ None → IsValid (extended schema definition)
valid_extended schema (Attribute name kind) = valid_attribute schema name kind
valid_extended schema (Relation name columns) = valid_relation schema name columns
valid_extended schema (Object name relation pairs) = valid_object schema name relation pairs
valid_extended schema (Fd left right) = valid_fd schema left right
valid_extended schema (Maximal objects) = valid_maximal schema objects
