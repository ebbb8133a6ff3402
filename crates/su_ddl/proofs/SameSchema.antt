-- The definitions of a valid schema make this schema again.
use Rattle.std.proofs.Common.{◌≡◌, ◌≢◌, ◌<◌, ◌≤◌, ℕ, false, ◌==◌, List, [], ◌∷◌, ◌++◌, length, length-append, map, find, Option, Some, None, option_map, refl, sym, ap, subst, ◌∙◌, All, AllPairs, nat_le, nat_lt, arith}
use Rattle.std.specs.Prelude.{Ok}
use lib.ListN.{length-map}
use Rattle.std.specs.List.{AllByRecursion, range_with_len, filter_map, cons_option}
use Rattle.std.specs.Ordering.{nat_cmp}
use Rattle.std.specs.FinSet.{FinSet}
use Rattle.std.proofs.lemmas.Bool.Decides.{nat_tests}
use Rattle.std.proofs.lemmas.List.{map-append}
use Rattle.std.proofs.lemmas.List.Elements.{recursion_from_All}
use Rattle.std.proofs.lemmas.Option.{slice_get_within, slice_get-map}
use Rattle.su_base.specs.Name.{IsName}
use Rattle.su_base.specs.declared.values.Column.{Column}
use Rattle.su_base.proofs.Items.{All-middle, AllByRecursion-weaker}
use Rattle.su_fd.specs.declared.Fd.{Fd as Dependency}
use Rattle.su_schema.specs.declared.definitions.Pair.{Pair}
use Rattle.su_schema.specs.declared.definitions.Definition.TheVariants.{Object}
use Rattle.su_schema.specs.declared.links.Link.{Link}
use Rattle.su_schema.specs.SchemaValue.{SchemaValue, AttributeEntry, RelationEntry, ObjectEntry}
use Rattle.su_schema.specs.Valid.{IsValid, IsRelationEntry, IsObject, IsLink, IsDependency, IsSomeBelow}
use Rattle.su_schema.specs.Entries.{AreDistinctNames, attribute_names, relation_names, object_names, column_names}
use Rattle.su_schema.specs.NameChecks.{first_failing, name_checks}
use Rattle.su_schema.specs.Known.{is_known, number_of, columns_at}
use Rattle.su_schema.specs.Checks.{pair_checks, checks}
use Rattle.su_schema.specs.Definitions.{applied, extended, numbers_of, links_of}
use Rattle.su_schema.specs.WellNamed.{IsWellNamed}
use Rattle.su_schema.proofs.Accepted.{accepted}
use Rattle.su_schema.proofs.LinkOrder.{found}
use Rattle.su_schema.proofs.Entries.{All-at}
use Rattle.su_schema.proofs.PairsSoFar.{columns_there, first_failing-passed}
use Rattle.su_ddl.specs.Files.{Reads, no_definitions}
use Rattle.su_ddl.specs.ShownDefinitions.{name_at, names_in, pair_of, attribute_definition, relation_definition, object_definition, fd_definition, maximal_definition, definitions_of}
use Rattle.su_ddl.specs.Shown.{schema_text}
use Rattle.su_ddl.proofs.Named.{step, fresh, apart_pass, not_unknown, number_at, IsSide, side}
use Rattle.su_ddl.proofs.Linked.{pair_at, all_pass, links_are, attributes_given, columns_given, ascending_again}
use Rattle.su_ddl.proofs.Steps.{Builds, builds_append, builds_all, lines_read}

-- ---- each entry is accepted again

-- where one more stands, fewer than the limit stood
room : {X : Type 0} (n : ℕ) (all done rest : List X) (x : X) → length all ≤ n → all ≡ done ++ x ∷ rest → nat_le n (length done) ≡ false
room n all done rest x few e =
    let shorter : length done < n = omega (arith, ap length e, length-append done (x ∷ rest), few) in
    grind (arith, nat_tests, shorter)

-- the name of an entry is new behind those before it
new_entry : {X : Type 0} (name : X → List ℕ) (all done rest : List X) (x : X) → AreDistinctNames (map name all) → all ≡ done ++ x ∷ rest → is_known (map name done) (name x) ≡ false
new_entry name all done rest x are e =
    fresh (map name done) (map name rest) (name x) (subst (AllPairs (λ a b. a ≢ b)) (ap (map name) e ∙ map-append name done (x ∷ rest)) are.apart)

named_entry : {X : Type 0} (name : X → List ℕ) (all done rest : List X) (x : X) (P : List ℕ → Type 0) → All P (map name all) → all ≡ done ++ x ∷ rest → P (name x)
named_entry name all done rest x P named e = All-middle P (map name done) (name x) (map name rest) (subst (All P) (ap (map name) e ∙ map-append name done (x ∷ rest)) named)

-- ---- pairs of an object

module _ (s : SchemaValue) (o : ObjectEntry) where
  abbrev on : List Column
  on = columns_at s o.relation

  abbrev at_link : Link → Pair
  at_link = pair_at s on

  pair_found : (a : ℕ) (x : Option Link) → find (λ l. l.attribute == a) o.links ≡ x
      → option_map (λ c. record { attribute = name_at (attribute_names s) a; column = name_at (column_names on) c }) (option_map (λ l. l.column) x) ≡ option_map at_link x
  pair_found a None e = refl
  pair_found a (Some l) e =
      let f = found (λ l. l.attribute == a) o.links l e in
      let at : l.attribute ≡ a = grind (arith, nat_tests, f.1) in
      ap (λ (k : ℕ). Some (record { attribute = name_at (attribute_names s) k; column = name_at (column_names on) l.column })) (sym at)

  listed_pair : (x : Option Link) (ls : List Link) → cons_option (option_map at_link x) (map at_link ls) ≡ map at_link (cons_option x ls)
  listed_pair None ls = refl
  listed_pair (Some l) ls = refl

  pairs_found : (ks : List ℕ) → filter_map (pair_of s o) ks ≡ map at_link (filter_map (λ a. find (λ l. l.attribute == a) o.links) ks)
  pairs_found [] = refl
  pairs_found (a ∷ ks) =
      ap (λ x. cons_option x (filter_map (pair_of s o) ks)) (pair_found a (find (λ l. l.attribute == a) o.links) refl)
      ∙ ap (cons_option (option_map at_link (find (λ l. l.attribute == a) o.links))) (pairs_found ks)
      ∙ listed_pair (find (λ l. l.attribute == a) o.links) (filter_map (λ a. find (λ l. l.attribute == a) o.links) ks)

-- ---- the lists, one after another

module _ (s : SchemaValue) (valid : IsValid s) where
  abbrev with_attributes : List AttributeEntry → SchemaValue
  with_attributes done = record { attributes = done; relations = []; objects = []; fds = []; declared = [] }

  abbrev with_relations : List RelationEntry → SchemaValue
  with_relations done = record { attributes = s.attributes; relations = done; objects = []; fds = []; declared = [] }

  abbrev with_objects : List ObjectEntry → SchemaValue
  with_objects done = record { attributes = s.attributes; relations = s.relations; objects = done; fds = []; declared = [] }

  abbrev with_fds : List Dependency → SchemaValue
  with_fds done = record { attributes = s.attributes; relations = s.relations; objects = s.objects; fds = done; declared = [] }

  abbrev with_declared : List (FinSet nat_cmp) → SchemaValue
  with_declared done = record { attributes = s.attributes; relations = s.relations; objects = s.objects; fds = s.fds; declared = done }

  one_attribute : (done rest : List AttributeEntry) (x : AttributeEntry) → s.attributes ≡ done ++ x ∷ rest
      → IsWellNamed (attribute_definition x) × (applied (with_attributes done) (attribute_definition x) ≡ Ok (with_attributes (done ++ x ∷ [])))
  one_attribute done rest x e =
      let new : is_known (attribute_names (with_attributes done)) x.name ≡ false = new_entry (λ (a : AttributeEntry). a.name) s.attributes done rest x valid.attribute_names e in
      let few : nat_le 128 (length done) ≡ false = room 128 s.attributes done rest x valid.few_attributes e in
      let none : first_failing (checks (with_attributes done) (attribute_definition x)) ≡ None = step _ _ _ new (step _ _ _ few refl) in (
        named_entry (λ (a : AttributeEntry). a.name) s.attributes done rest x IsName valid.attribute_names.named e,
        accepted (with_attributes done) (with_attributes (done ++ x ∷ [])) (attribute_definition x) none refl,
      )

  one_relation : (done rest : List RelationEntry) (x : RelationEntry) → s.relations ≡ done ++ x ∷ rest
      → IsWellNamed (relation_definition x) × (applied (with_relations done) (relation_definition x) ≡ Ok (with_relations (done ++ x ∷ [])))
  one_relation done rest x e =
      let is : IsRelationEntry x = All-middle IsRelationEntry done x rest (subst (All IsRelationEntry) e valid.relations) in
      let new : is_known (relation_names (with_relations done)) x.name ≡ false = new_entry (λ (a : RelationEntry). a.name) s.relations done rest x valid.relation_names e in
      let few : nat_le 64 (length done) ≡ false = room 64 s.relations done rest x valid.few_relations e in
      let wide = is.few in
      let narrow : nat_lt 32 (length x.columns) ≡ false = grind (arith, nat_tests, wide) in
      let none : first_failing (checks (with_relations done) (relation_definition x)) ≡ None =
      step _ _ _ new (step _ _ _ few (step _ _ _ narrow (apart_pass (column_names x.columns) [] (column_names x.columns) refl is.columns.apart))) in (
        (named_entry (λ (a : RelationEntry). a.name) s.relations done rest x IsName valid.relation_names.named e, record { some = rw length-map is.some; named = is.columns.named }),
        accepted (with_relations done) (with_relations (done ++ x ∷ [])) (relation_definition x) none refl,
      )

  one_object : (done rest : List ObjectEntry) (x : ObjectEntry) → s.objects ≡ done ++ x ∷ rest
      → IsWellNamed (object_definition s x) × (applied (with_objects done) (object_definition s x) ≡ Ok (with_objects (done ++ x ∷ [])))
  one_object done rest x e =
      let t = with_objects done in
      let is : IsObject s x = All-middle (IsObject s) done x rest (subst (All (IsObject s)) e valid.objects) in
      let columns = columns_at s x.relation in
      let columns_is : columns ≡ is.relation.columns = columns_there s x.relation is.relation.columns (slice_get-map (λ (r : RelationEntry). r.columns) s.relations x.relation ∙ ap (option_map (λ (r : RelationEntry). r.columns)) is.stored) in
      let stored : IsRelationEntry is.relation = All-at IsRelationEntry s.relations x.relation is.relation valid.relations is.stored in
      let columns_are : AreDistinctNames (column_names columns) = subst (λ (v : List Column). AreDistinctNames (column_names v)) (sym columns_is) stored.columns in
      let joined : All (IsLink s columns) x.links = subst (λ (v : List Column). All (IsLink s v) x.links) (sym columns_is) is.joined in
      let within : x.relation < length (relation_names s) = rw length-map (slice_get_within s.relations x.relation is.relation is.stored) in
      let name = name_at (relation_names s) x.relation in
      let number : number_of (relation_names s) name ≡ x.relation = number_at (relation_names s) valid.relation_names.apart x.relation within in
      let pairs = map (pair_at s columns) x.links in
      let below : AllByRecursion (λ l. l.attribute < length s.attributes) x.links =
      AllByRecursion-weaker (IsLink s columns) (λ l. l.attribute < length s.attributes) x.links (λ l k. slice_get_within s.attributes l.attribute k.0 k.2) (recursion_from_All (IsLink s columns) x.links joined) in
      let pairs_are : filter_map (pair_of s x) (range_with_len 0 (length s.attributes)) ≡ pairs =
      pairs_found s x (range_with_len 0 (length s.attributes)) ∙ ap (map (pair_at s columns)) (ascending_again (length s.attributes) x.links is.ascending below) in
      let new : is_known (object_names t) x.name ≡ false = new_entry (λ (a : ObjectEntry). a.name) s.objects done rest x valid.object_names e in
      let few : nat_le 64 (length done) ≡ false = room 64 s.objects done rest x valid.few_objects e in
      let all = all_pass t columns valid.attribute_names columns_are x.links joined is.ascending is.apart in
      let passed : first_failing (pair_checks t (columns_at t (number_of (relation_names s) name)) [] pairs) ≡ None =
      ap (λ k. first_failing (pair_checks t (columns_at t k) [] pairs)) number ∙ all in
      let none : first_failing (checks t (Object x.name name pairs)) ≡ None = step _ _ _ new (step _ _ _ few (step _ _ _ (not_unknown (relation_names s) x.relation within) passed)) in
      let links = links_are t columns valid.attribute_names columns_are x.links joined is.ascending is.apart in
      let put : ℕ → List Link → ObjectEntry = λ k ls. record { name = x.name; relation = k; links = ls } in
      let entry : put (number_of (relation_names s) name) (links_of t (columns_at t (number_of (relation_names s) name)) pairs) ≡ x =
      ap (λ k. put k (links_of t (columns_at t k) pairs)) number ∙ ap (put x.relation) links in
      let is_next : with_objects (done ++ x ∷ []) ≡ extended t (Object x.name name pairs) = ap (λ (v : ObjectEntry). with_objects (done ++ v ∷ [])) (sym entry) in
      let well : IsWellNamed (Object x.name name pairs) = (
        named_entry (λ (a : ObjectEntry). a.name) s.objects done rest x IsName valid.object_names.named e,
        valid.relation_names.named x.relation [] within,
        attributes_given t columns valid.attribute_names columns_are x.links joined is.ascending is.apart is.some,
        columns_given t columns valid.attribute_names columns_are x.links joined is.ascending is.apart is.some,
      ) in
      subst (λ (v : List Pair). IsWellNamed (Object x.name name v) × (applied t (Object x.name name v) ≡ Ok (with_objects (done ++ x ∷ [])))) (sym pairs_are)
      (well, accepted t (with_objects (done ++ x ∷ [])) (Object x.name name pairs) none is_next)

  attribute_side : (set : FinSet nat_cmp) → IsSomeBelow (length s.attributes) set → IsSide (attribute_names s) set
  attribute_side set is = side (attribute_names s) set valid.attribute_names (subst (λ (n : ℕ). IsSomeBelow n set) (sym (length-map s.attributes (λ a. a.name))) is)

  one_fd : (done rest : List Dependency) (x : Dependency) → s.fds ≡ done ++ x ∷ rest
      → IsWellNamed (fd_definition s x) × (applied (with_fds done) (fd_definition s x) ≡ Ok (with_fds (done ++ x ∷ [])))
  one_fd done rest x e =
      let is : IsDependency s x = All-middle (IsDependency s) done x rest (subst (All (IsDependency s)) e valid.fds) in
      let l = attribute_side x.left is.left in
      let r = attribute_side x.right is.right in
      let names = attribute_names s in
      let few : nat_le 256 (length done) ≡ false = room 256 s.fds done rest x valid.few_fds e in
      let none : first_failing (checks (with_fds done) (fd_definition s x)) ≡ None =
      step _ _ _ few (first_failing-passed (name_checks names [] (names_in names x.left)) (name_checks names [] (names_in names x.right)) l.pass ∙ r.pass) in
      let put : FinSet nat_cmp → FinSet nat_cmp → Dependency = λ v w. record { left = v; right = w } in
      let entry : put (numbers_of names (names_in names x.left)) (numbers_of names (names_in names x.right)) ≡ x =
      ap (λ v. put v (numbers_of names (names_in names x.right))) l.again ∙ ap (put x.left) r.again in
      ((l.given, r.given), accepted (with_fds done) (with_fds (done ++ x ∷ [])) (fd_definition s x) none (ap (λ (v : Dependency). with_fds (done ++ v ∷ [])) (sym entry)))

  one_declared : (done rest : List (FinSet nat_cmp)) (x : FinSet nat_cmp) → s.declared ≡ done ++ x ∷ rest
      → IsWellNamed (maximal_definition s x) × (applied (with_declared done) (maximal_definition s x) ≡ Ok (with_declared (done ++ x ∷ [])))
  one_declared done rest x e =
      let is : IsSomeBelow (length s.objects) x = All-middle (IsSomeBelow (length s.objects)) done x rest (subst (All (IsSomeBelow (length s.objects))) e valid.declared) in
      let m = side (object_names s) x valid.object_names (subst (λ (n : ℕ). IsSomeBelow n x) (sym (length-map s.objects (λ o. o.name))) is) in
      let few : nat_le 64 (length done) ≡ false = room 64 s.declared done rest x valid.few_declared e in
      let none : first_failing (checks (with_declared done) (maximal_definition s x)) ≡ None = step _ _ _ few m.pass in
      (m.given, accepted (with_declared done) (with_declared (done ++ x ∷ [])) (maximal_definition s x) none (ap (λ (v : FinSet nat_cmp). with_declared (done ++ v ∷ [])) (sym m.again)))

  pub definitions_build : Builds no_definitions (definitions_of s) s
  definitions_build =
      let a : Builds no_definitions (map attribute_definition s.attributes) (with_relations []) = builds_all with_attributes attribute_definition s.attributes one_attribute in
      let r : Builds (with_relations []) (map relation_definition s.relations) (with_objects []) = builds_all with_relations relation_definition s.relations one_relation in
      let o : Builds (with_objects []) (map (object_definition s) s.objects) (with_fds []) = builds_all with_objects (object_definition s) s.objects one_object in
      let f : Builds (with_fds []) (map (fd_definition s) s.fds) (with_declared []) = builds_all with_fds (fd_definition s) s.fds one_fd in
      let m : Builds (with_declared []) (map (maximal_definition s) s.declared) s = builds_all with_declared (maximal_definition s) s.declared one_declared in
      builds_append no_definitions (with_declared []) s _ _
      (builds_append no_definitions (with_fds []) (with_declared []) _ _
      (builds_append no_definitions (with_objects []) (with_fds []) _ _
      (builds_append no_definitions (with_relations []) (with_objects []) _ _ a r) o) f) m

-- the text of a valid schema is read as this schema
pub read_again : (s : SchemaValue) → IsValid s → Reads (schema_text s) (Ok s)
read_again s valid = lines_read s (definitions_of s) (definitions_build s valid)
