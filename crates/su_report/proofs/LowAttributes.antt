-- The attributes of a valid schema's objects are below 128, and the objects of a core are some of the set's.
use Rattle.std.proofs.Common.{ℕ, zero, suc, ◌≡◌, ◌<◌, nat_eq, true, List, [], ◌∷◌, map, length, Contains, inl, inr, sym, ap, ◌∙◌, arith}
use Rattle.std.specs.List.{list_any}
use Rattle.std.specs.Ordering.{nat_cmp}
use Rattle.std.specs.FinSet.{FinSet, contains, contains-from_list_nat, contains-empty, members}
use Rattle.std.proofs.lemmas.Bool.{false≢true, cases_Bool}
use Rattle.std.proofs.lemmas.Bool.Decides.{nat_tests}
use Rattle.std.proofs.lemmas.List.Elements.{All-contains}
use Rattle.std.proofs.lemmas.Option.{slice_get_within}
use Rattle.su_base.specs.Sets.{set_at}
use Rattle.su_base.proofs.Items.{Contains-head, Contains-later}
use Rattle.su_schema.specs.declared.links.Link.{Link}
use Rattle.su_schema.specs.SchemaValue.{SchemaValue, ObjectEntry}
use Rattle.su_schema.specs.Entries.{attributes_of}
use Rattle.su_schema.specs.Valid.{IsValid, IsObject, IsLink}
use Rattle.su_maxobj.specs.MaximalObjects.{object_sets}
use Rattle.su_advise.specs.Cycles.{without, IsTaking, IsCore}

-- ---- attributes

-- the link that has the attribute
link_of : (links : List Link) (a : ℕ) → list_any (λ y. nat_eq y a) (map (λ l. l.attribute) links) ≡ true → (l : Link) × Contains links l × (l.attribute ≡ a)
link_of [] a none = absurd (false≢true none)
link_of (l ∷ links) a any =
    elim (cases_Bool (nat_eq l.attribute a)) [
      | inl here ↦ (l, Contains-head l links, let same : l.attribute ≡ a = grind (arith, nat_tests, here) in same)
      | inr other ↦
          let later : list_any (λ y. nat_eq y a) (map (λ l. l.attribute) links) ≡ true = grind (arith, other, any) in
          let w = link_of links a later in
          (w.0, Contains-later l links w.0 w.1, w.2)
    ]

of_object : (schema : SchemaValue) (object : ObjectEntry) → IsValid schema → IsObject schema object → (a : ℕ) → contains (attributes_of object) a ≡ true → a < 128
of_object schema object valid own a one =
    let w = link_of object.links a (sym (contains-from_list_nat (map (λ l. l.attribute) object.links) a) ∙ one) in
    let link = All-contains (IsLink schema own.relation.columns) object.links w.0 own.joined w.1 in
    let low : w.0.attribute < length schema.attributes = slice_get_within schema.attributes w.0.attribute link.0 link.2 in
    let same = w.2 in
    let few = valid.few_attributes in
    omega (arith, low, same, few)

-- the object that has the attribute
object_of : (objects : List ObjectEntry) (o a : ℕ) → contains (set_at (map attributes_of objects) o) a ≡ true → (object : ObjectEntry) × Contains objects object × (contains (attributes_of object) a ≡ true)
object_of [] o a one = absurd (false≢true (sym (contains-empty nat_cmp a) ∙ one))
object_of (x ∷ xs) zero a one = (x, Contains-head x xs, one)
object_of (x ∷ xs) (suc o) a one = let w = object_of xs o a one in (w.0, Contains-later x xs w.0 w.1, w.2)

pub attributes_low : (schema : SchemaValue) → IsValid schema → (o a : ℕ) → contains (set_at (object_sets schema) o) a ≡ true → a < 128
attributes_low schema valid o a one =
    let w = object_of schema.objects o a one in
    of_object schema w.0 valid (All-contains (IsObject schema) schema.objects w.0 valid.objects w.1) a w.2

-- ---- objects of a core

still_member : (m : FinSet nat_cmp) (o k : ℕ) → contains (without m o) k ≡ true → contains m k ≡ true
still_member m o k one = grind (arith, members, one)

taken_within : (objects : List (FinSet nat_cmp)) (n : ℕ) (m : FinSet nat_cmp) (taken : List ℕ) (last : FinSet nat_cmp) → IsTaking objects m taken last → ((k : ℕ) → contains m k ≡ true → k < n) → (k : ℕ) → contains last k ≡ true → k < n
taken_within objects n m [] last same all k one = all k (ap (λ (s : FinSet nat_cmp). contains s k) same ∙ one)
taken_within objects n m (o ∷ os) last taking all k one = taken_within objects n (without m o) os last taking.1 (λ j there. all j (still_member m o j there)) k one

pub core_within : (objects : List (FinSet nat_cmp)) (n : ℕ) (m last : FinSet nat_cmp) → IsCore objects m last → ((k : ℕ) → contains m k ≡ true → k < n) → (k : ℕ) → contains last k ≡ true → k < n
core_within objects n m last core all = taken_within objects n m core.taken last core.taking all
