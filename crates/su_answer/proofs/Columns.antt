-- The columns of an object's attributes, by the object's number.
use Rattle.std.proofs.Common.{◌≡◌, ◌<◌, ℕ, true, [], length, map, slice_get, get_or, Some, None, sym, ap, subst, ◌∙◌}
use Rattle.std.specs.Prelude.{option_map}
use Rattle.std.specs.FinSet.{contains, empty}
use Rattle.std.proofs.lemmas.Option.{slice_get_within, slice_get-map, slice_get-get_or, get_or_from_slice_get}
use Rattle.su_schema.specs.SchemaValue.{SchemaValue, ObjectEntry}
use Rattle.su_schema.specs.Valid.{IsValid, IsObject}
use Rattle.su_schema.specs.Entries.{column_of, attributes_of}
use Rattle.su_state.proofs.Columns.{column_of_attribute, column_answered}
use Rattle.su_steps.specs.Objects.{attributes_at}

pub object_is : (schema : SchemaValue) (o : ℕ) (entry : ObjectEntry) → IsValid schema → slice_get schema.objects o ≡ Some entry → IsObject schema entry
object_is schema o entry valid at = subst (IsObject schema) (get_or_from_slice_get schema.objects o entry entry at) (valid.objects o entry (slice_get_within schema.objects o entry at))

-- the attributes of an object, by its number
pub attributes_by : (schema : SchemaValue) (o : ℕ) (object : ObjectEntry) → slice_get schema.objects o ≡ Some object → attributes_at schema o ≡ attributes_of object
attributes_by schema o object at = get_or_from_slice_get (map attributes_of schema.objects) o (attributes_of object) empty (slice_get-map attributes_of schema.objects o ∙ ap (option_map attributes_of) at)

-- an object's own attribute has a column
pub column_there : (schema : SchemaValue) (o a : ℕ) → o < length schema.objects → contains (attributes_at schema o) a ≡ true → slice_get (map (λ object. column_of object a) schema.objects) o ≡ Some None → ⊥
column_there schema o a low own is =
    let none : ObjectEntry = record { name = []; relation = 0; links = [] } in
    let entry = get_or schema.objects o none in
    let at : slice_get schema.objects o ≡ Some entry = slice_get-get_or schema.objects o none low in
    let k = column_of_attribute entry a (subst (λ s. contains s a ≡ true) (attributes_by schema o entry at) own) in
    let e : None ≡ Some k.0 = sym (column_answered schema o a entry None at is) ∙ k.1 in
    cc
