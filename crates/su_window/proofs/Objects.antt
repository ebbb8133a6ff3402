-- The objects of a database: their attributes, their columns, and the rows under them.
use Rattle.std.proofs.Common.{◌≡◌, ℕ, ◌<◌, true, false, cond, nat_eq, ◌==◌, ◌||◌, List, [], ◌∷◌, map, length, get_or, Contains, Option, Some, None, refl, sym, ap, ◌∙◌, subst, pos, arith, inl, inr}
use Rattle.std.proofs.Math.ListN.{get_or-map as map_read}
use Rattle.std.specs.Prelude.{find, option_map, option_and_then, unwrap_or, slice_get}
use Rattle.std.specs.List.{list_any}
use Rattle.std.specs.FinSet.{contains, empty, contains-from_list_nat}
use Rattle.std.proofs.lemmas.Bool.{eqb-true, cases_Bool}
use Rattle.std.proofs.lemmas.List.{length-map, get_or-map}
use Rattle.std.proofs.lemmas.List.Elements.{All-contains}
use Rattle.std.proofs.lemmas.Option.{slice_get_within, slice_get-get_or, get_or_from_slice_get, none-some, unwrap_or-slice_get}
use Rattle.su_base.specs.declared.values.Kind.{Kind}
use Rattle.su_base.specs.declared.values.Kind.TheVariants.{Int as IntKind}
use Rattle.su_base.specs.declared.values.Column.{Column}
use Rattle.su_base.specs.declared.values.Value.{Value}
use Rattle.su_base.specs.declared.values.Value.TheVariants.{Int}
use Rattle.su_base.specs.Value.{kind_of}
use Rattle.su_base.proofs.Items.{Contains-later}
use Rattle.su_schema.specs.declared.links.Link.{Link}
use Rattle.su_schema.specs.SchemaValue.{SchemaValue, AttributeEntry, ObjectEntry}
use Rattle.su_schema.specs.Valid.{IsObject, IsLink}
use Rattle.su_schema.specs.Entries.{attribute_kinds, attributes_of, column_of}
use Rattle.su_schema.specs.Known.{columns_at}
use Rattle.su_state.specs.DatabaseValue.{DatabaseValue, IsWellKept, HasColumnKinds, columns_of}
use Rattle.su_state.proofs.Columns.{column_within, column_of_attribute, object_on, relation_at}
use Rattle.su_schema.specs.Cuts.{width, attributes_at}
use Rattle.su_schema.proofs.Entries.{blank_object}
use Rattle.su_state.specs.Views.{value_for}
use Rattle.su_window.specs.Padded.{object_at, rows_under}

pub placed_at : (schema : SchemaValue) (o : ℕ) → o < length schema.objects → slice_get schema.objects o ≡ Some (object_at schema o)
placed_at schema o low = slice_get-get_or schema.objects o blank_object low

-- ---- links

has_attribute : (links : List Link) (a c : ℕ) → option_map (λ l. l.column) (find (λ l. l.attribute == a) links) ≡ Some c → list_any (λ y. nat_eq y a) (map (λ l. l.attribute) links) ≡ true
has_attribute [] a c e = absurd (none-some c e)
has_attribute (l ∷ links) a c e =
    elim (l.attribute == a) as (λ b. option_map (λ l. l.column) (cond b (Some l) (find (λ l. l.attribute == a) links)) ≡ Some c → (b || list_any (λ y. nat_eq y a) (map (λ l. l.attribute) links)) ≡ true) [
      | true ↦ λ _. refl
      | false ↦ λ more. has_attribute links a c more
    ] e

link_at : (links : List Link) (a c : ℕ) → option_map (λ l. l.column) (find (λ l. l.attribute == a) links) ≡ Some c → (l : Link) × Contains links l × (l.attribute ≡ a) × (l.column ≡ c)
link_at [] a c e = absurd (none-some c e)
link_at (l ∷ links) a c e =
    elim (l.attribute == a) as (λ b. (l.attribute == a) ≡ b → option_map (λ l. l.column) (cond b (Some l) (find (λ l. l.attribute == a) links)) ≡ Some c → (k : Link) × Contains (l ∷ links) k × (k.attribute ≡ a) × (k.column ≡ c)) [
      | true ↦ λ t here. (l, (0, omega arith, refl), eqb-true l.attribute a t, (let s : Some l.column ≡ Some c = here in cc))
      | false ↦ λ _ more. let w = link_at links a c more in (w.0, Contains-later l links w.0 w.1, w.2, w.3)
    ] refl e

-- an attribute that has a column is the object's
pub own_attribute : (object : ObjectEntry) (a c : ℕ) → column_of object a ≡ Some c → contains (attributes_of object) a ≡ true
own_attribute object a c e = contains-from_list_nat (map (λ l. l.attribute) object.links) a ∙ has_attribute object.links a c e

-- one that has none is not
pub no_attribute : (object : ObjectEntry) (a : ℕ) → column_of object a ≡ None → contains (attributes_of object) a ≡ false
no_attribute object a e =
    elim (cases_Bool (contains (attributes_of object) a)) [
      | inl t ↦ let w = column_of_attribute object a t in absurd (none-some w.0 (sym e ∙ w.1))
      | inr f ↦ f
    ]

pub value_is : (object : ObjectEntry) (row : List Value) (a c : ℕ) → column_of object a ≡ Some c → value_for object row a ≡ get_or row c (Int (pos 0))
value_is object row a c e = ap (λ (o : Option ℕ). unwrap_or (option_and_then (slice_get row) o) (Int (pos 0))) e ∙ unwrap_or-slice_get row c (Int (pos 0))

-- ---- an object of a database

module _ (db : DatabaseValue) (kept : IsWellKept db) (o : ℕ) (low : o < length db.schema.objects) where
  abbrev object : ObjectEntry
  object = object_at db.schema o

  pub placed : slice_get db.schema.objects o ≡ Some object
  placed = placed_at db.schema o low

  pub attributes_are : attributes_at db.schema o ≡ attributes_of object
  attributes_are = get_or-map attributes_of db.schema.objects o blank_object empty low

  own : IsObject db.schema object
  own = kept.valid.objects o blank_object low

  pub relation_low : object.relation < length db.tables
  relation_low = let l = object_on db.schema o object kept.valid placed in let k = kept.tables in omega (arith, l, k)

  row_kinds : (row : List Value) → Contains (rows_under db o) row → map kind_of row ≡ map (λ (c : Column). c.kind) (columns_of db object.relation)
  row_kinds row c = All-contains (HasColumnKinds (columns_of db object.relation)) (rows_under db o) row (kept.typed object.relation relation_low) c

  pub row_long : (row : List Value) → Contains (rows_under db o) row → length row ≡ length (columns_at db.schema object.relation)
  row_long row c = sym (length-map row kind_of) ∙ ap (λ (ks : List Kind). length ks) (row_kinds row c) ∙ length-map (columns_of db object.relation) (λ (c : Column). c.kind)

  pub column_low : (row : List Value) → Contains (rows_under db o) row → (a c : ℕ) → column_of object a ≡ Some c → c < length row
  column_low row h a c e = let l = column_within db.schema o object a c kept.valid placed e in let w = row_long row h in omega (arith, l, w)

  -- the link of a column joins an attribute of its kind
  pub kind_is : (row : List Value) → Contains (rows_under db o) row → (a c : ℕ) → column_of object a ≡ Some c → kind_of (get_or row c (Int (pos 0))) ≡ get_or (attribute_kinds db.schema) a IntKind
  kind_is row h a c e =
      let w = link_at object.links a c e in
      let link : IsLink db.schema own.relation.columns w.0 = All-contains (IsLink db.schema own.relation.columns) object.links w.0 own.joined w.1 in
      let attribute : AttributeEntry = link.0 in
      let column : Column = link.1 in
      let at : slice_get db.schema.attributes a ≡ Some attribute = subst (λ (k : ℕ). slice_get db.schema.attributes k ≡ Some attribute) w.2 link.2 in
      let under : slice_get own.relation.columns c ≡ Some column = subst (λ (k : ℕ). slice_get own.relation.columns k ≡ Some column) w.3 link.3 in
      let columns : columns_of db object.relation ≡ own.relation.columns = relation_at db.schema object own.relation own.stored in
      let left : kind_of (get_or row c (Int (pos 0))) ≡ get_or (map (λ (q : Column). q.kind) own.relation.columns) c IntKind =
      sym (map_read kind_of row c (Int (pos 0))) ∙ ap (λ (ks : List Kind). get_or ks c IntKind) (row_kinds row h ∙ ap (map (λ (q : Column). q.kind)) columns) in
      let middle : get_or (map (λ (q : Column). q.kind) own.relation.columns) c IntKind ≡ column.kind =
      get_or-map (λ (q : Column). q.kind) own.relation.columns c column IntKind (slice_get_within own.relation.columns c column under) ∙ ap (λ (q : Column). q.kind) (get_or_from_slice_get own.relation.columns c column column under) in
      let right : get_or (attribute_kinds db.schema) a IntKind ≡ attribute.kind =
      get_or-map (λ (q : AttributeEntry). q.kind) db.schema.attributes a attribute IntKind (slice_get_within db.schema.attributes a attribute at) ∙ ap (λ (q : AttributeEntry). q.kind) (get_or_from_slice_get db.schema.attributes a attribute attribute at) in
      left ∙ middle ∙ sym link.4 ∙ sym right

  pub attribute_low : (a c : ℕ) → column_of object a ≡ Some c → a < width db.schema
  attribute_low a c e =
      let w = link_at object.links a c e in
      let link : IsLink db.schema own.relation.columns w.0 = All-contains (IsLink db.schema own.relation.columns) object.links w.0 own.joined w.1 in
      let l = slice_get_within db.schema.attributes w.0.attribute link.0 link.2 in
      let n = length-map db.schema.attributes (λ (q : AttributeEntry). q.kind) in
      let same = w.2 in
      omega (arith, l, n, same)
