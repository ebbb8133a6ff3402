-- What the maps and lists show after one more is put in.
use Rattle.std.proofs.Common.{◌≡◌, ℕ, false, List, [], ◌∷◌, ◌++◌, map, None, refl, sym, subst, All}
use Rattle.std.specs.String.{string_bytes, string_eq}
use Rattle.std.specs.declared.alloc.Global.{Global}
use Rattle.std.specs.declared.string.String.{String}
use Rattle.std.specs.FinSet.{FinSet}
use Rattle.std.specs.Ordering.{nat_cmp}
use Rattle.indexmap.specs.IndexMap.{insert_entry}
use Rattle.su_base.specs.declared.values.Kind.{Kind}
use Rattle.su_base.specs.declared.values.Column.{Column}
use Rattle.su_fd.specs.declared.Fd.{Fd as Dependency}
use Rattle.su_schema.specs.declared.definitions.Pair.{Pair}
use Rattle.su_schema.specs.declared.definitions.Definition.{Definition}
use Rattle.su_schema.specs.declared.definitions.Definition.TheVariants.{Attribute, Relation, Object, Fd, Maximal}
use Rattle.su_schema.specs.declared.links.Object.{Object as KeptObject}
use Rattle.su_schema.specs.declared.schemas.Schema.TheInside.{Inside}
use Rattle.su_schema.specs.SchemaValue.{SchemaValue}
use Rattle.su_schema.specs.Valid.{IsValid}
use Rattle.su_schema.specs.Entries.{attribute_names, relation_names, object_names}
use Rattle.su_schema.specs.NameChecks.{first_failing}
use Rattle.su_schema.specs.Known.{is_known, number_of, columns_at}
use Rattle.su_schema.specs.Checks.{checks}
use Rattle.su_schema.specs.Definitions.{extended, numbers_of, links_of}
use Rattle.su_schema.specs.WellNamed.{IsWellNamed}
use Rattle.su_schema.specs.Maps.{shown}
use Rattle.su_schema.specs.inside.Kept.{HasItsSet, object_on}
use Rattle.su_schema.proofs.Accepted.{valid_extended}
use Rattle.su_schema.proofs.Entries.{added, added_last}
use Rattle.std.proofs.lemmas.List.Elements.{All-push}

-- the schema that is shown after a definition whose checks pass is valid
pub stays_valid : (inside : Inside) (self next : SchemaValue) (definition : Definition) → shown inside ≡ self → IsValid (shown inside) → IsWellNamed definition → first_failing (checks self definition) ≡ None → next ≡ extended self definition → IsValid next
stays_valid inside self next definition is valid well none shape = rw shape (valid_extended self definition well (rw (← is) valid) none)

module _ (inside : Inside) (self : SchemaValue) (is : shown inside ≡ self) where
  pub attribute_shape : (news : List (String Global × Kind)) (key : String Global) (kind : Kind) (text : List ℕ) → string_bytes key ≡ text → is_known (attribute_names self) text ≡ false
      → news ≡ insert_entry string_eq inside.attributes.entries key kind
      → record (shown inside) { attributes = map (λ e. record { name = string_bytes e.0; kind = e.1 }) news } ≡ extended self (Attribute text kind)
  attribute_shape news key kind text k new put =
      let fresh : is_known (attribute_names (shown inside)) text ≡ false = subst (λ (s : SchemaValue). is_known (attribute_names s) text ≡ false) (sym is) new in
      rw (← is, added _ (λ a. a.name) (λ e. refl) inside.attributes.entries news key kind text k fresh put, k) refl

  pub relation_shape : (news : List (String Global × List Column)) (key : String Global) (kept columns : List Column) (text : List ℕ) → kept ≡ columns → string_bytes key ≡ text → is_known (relation_names self) text ≡ false
      → news ≡ insert_entry string_eq inside.relations.entries key kept
      → record (shown inside) { relations = map (λ e. record { name = string_bytes e.0; columns = e.1 }) news } ≡ extended self (Relation text columns)
  relation_shape news key kept columns text same k new put =
      let fresh : is_known (relation_names (shown inside)) text ≡ false = subst (λ (s : SchemaValue). is_known (relation_names s) text ≡ false) (sym is) new in
      rw (← is, added _ (λ a. a.name) (λ e. refl) inside.relations.entries news key kept text k fresh put, k, same) refl

  abbrev made : List ℕ → List Pair → KeptObject
  made relation pairs = object_on (number_of (relation_names self) relation) (links_of self (columns_at self (number_of (relation_names self) relation)) pairs)

  pub object_shape : (news : List (String Global × KeptObject)) (key : String Global) (kept : KeptObject) (text relation : List ℕ) (pairs : List Pair) → kept ≡ made relation pairs → string_bytes key ≡ text → is_known (object_names self) text ≡ false
      → news ≡ insert_entry string_eq inside.objects.entries key kept
      → record (shown inside) { objects = map (λ e. record { name = string_bytes e.0; relation = e.1.relation; links = e.1.links }) news } ≡ extended self (Object text relation pairs)
  object_shape news key kept text relation pairs same k new put =
      let fresh : is_known (object_names (shown inside)) text ≡ false = subst (λ (s : SchemaValue). is_known (object_names s) text ≡ false) (sym is) new in
      rw (← is)
      (rw (added _ (λ a. a.name) (λ e. refl) inside.objects.entries news key kept text k fresh put, k, same, ← is) refl)

  -- and the new object has its set too
  pub sets_kept : (news : List (String Global × KeptObject)) (key : String Global) (kept : KeptObject) (text relation : List ℕ) (pairs : List Pair) → kept ≡ made relation pairs → string_bytes key ≡ text → is_known (object_names self) text ≡ false
      → news ≡ insert_entry string_eq inside.objects.entries key kept → All HasItsSet inside.objects.entries → All HasItsSet news
  sets_kept news key kept text relation pairs same k new put sets =
      let fresh : is_known (object_names (shown inside)) text ≡ false = subst (λ (s : SchemaValue). is_known (object_names s) text ≡ false) (sym is) new in
      let own : HasItsSet (key, kept) = rw same refl in
      rw (added_last (λ (e : String Global × KeptObject). record { name = string_bytes e.0; relation = e.1.relation; links = e.1.links }) (λ a. a.name) (λ e. refl) inside.objects.entries news key kept text k fresh put)
      (All-push HasItsSet inside.objects.entries (key, kept) sets own)

  pub fd_shape : (news : List Dependency) (left right : List (List ℕ)) (l r : FinSet nat_cmp) → news ≡ inside.fds ++ record { left = l; right = r } ∷ [] → l ≡ numbers_of (attribute_names self) left → r ≡ numbers_of (attribute_names self) right
      → record (shown inside) { fds = news } ≡ extended self (Fd left right)
  fd_shape news left right l r put el er = rw (put, el, er, ← is) refl

  pub maximal_shape : (news : List (FinSet nat_cmp)) (objects : List (List ℕ)) (s : FinSet nat_cmp) → news ≡ inside.declared ++ s ∷ [] → s ≡ numbers_of (object_names self) objects
      → record (shown inside) { declared = news } ≡ extended self (Maximal objects)
  maximal_shape news objects s put e = rw (put, e, ← is) refl
