-- A database stays well kept where its schema comes to have one definition more, which holds on the stored rows.
use Rattle.std.proofs.Common.{◌≡◌, ◌<◌, ◌≤◌, ◌+◌, ◌-◌, ℕ, List, [], ◌∷◌, ◌++◌, length, map, slice_get, get_or, Option, Some, None, Ok, Err, refl, sym, ap, subst, ◌∙◌, All, inl, inr, ◌⊎◌, zero, suc, append-nil, arith}
use Rattle.std.proofs.lemmas.Bool.{cases_lt}
use Rattle.std.proofs.lemmas.List.{length-append, length_push, length-map, map-append, get_or_append_left, get_or-append_right, get_or_past, get_or_push}
use Rattle.std.proofs.lemmas.List.Elements.{All-nil}
use Rattle.std.proofs.lemmas.Option.{slice_get-get_or, slice_get_within, get_or_from_slice_get}
use Rattle.su_base.specs.declared.values.Value.{Value}
use Rattle.su_base.specs.declared.values.Column.{Column}
use Rattle.su_fd.specs.declared.dependencies.Fd.{Fd as Dependency}
use Rattle.su_rel.specs.Stored.{Stored}
use Rattle.su_schema.specs.declared.definitions.Definition.{Definition}
use Rattle.su_schema.specs.declared.definitions.Definition.TheVariants.{Attribute, Relation, Object, Fd, Maximal}
use Rattle.su_schema.specs.declared.faults.SchemaFault.{SchemaFault}
use Rattle.su_schema.specs.SchemaValue.{SchemaValue, RelationEntry, ObjectEntry}
use Rattle.su_schema.specs.Valid.{IsRelationEntry, IsValid}
use Rattle.su_schema.specs.Entries.{relation_columns}
use Rattle.su_schema.specs.Checks.{checks}
use Rattle.su_schema.specs.NameChecks.{first_failing}
use Rattle.su_schema.specs.Known.{columns_at}
use Rattle.su_schema.specs.Definitions.{applied, extended, outcome}
use Rattle.su_index.specs.Tables.{table_at, rows_at}
use Rattle.su_state.specs.DatabaseValue.{DatabaseValue, HasColumnKinds, IsWellKept}
use Rattle.su_state.specs.Enforced.{HoldsOn}
use Rattle.su_state.specs.Definitions.{tables_with, Defines}
use Rattle.su_state.specs.declared.faults.DefineFault.{DefineFault}
use Rattle.su_state.specs.declared.faults.DefineFault.TheVariants.{Schema, Breaks, NoMemory}
use Rattle.su_state.specs.Breaches.{Breach}
use Rattle.su_state.specs.NewBreaches.{IsNewBreach}
use Rattle.su_state.specs.inside.AddedDefinitions.{HaveTables, HasAdded, IsNarrow, TellsFirst}
use Rattle.su_state.proofs.Columns.{object_on}
use Rattle.su_state.proofs.Empty.{empty_table, no_rows, at_width}
use Rattle.su_state.proofs.Kept.{blank}
use Rattle.su_state.proofs.StoredBreaches.{stored_breach}

of_outcome : (fails : Option SchemaFault) (made schema : SchemaValue) → outcome fails made ≡ Ok schema → schema ≡ made
of_outcome (Some fault) made schema is = cc
of_outcome None made schema is = cc

-- an accepted definition is the schema with it
pub extended_is : (schema new : SchemaValue) (definition : Definition) → applied schema definition ≡ Ok new → new ≡ extended schema definition
extended_is schema new definition is = of_outcome (first_failing (checks schema definition)) (extended schema definition) new is

-- more tables without rows add no rows
pub rows_more : (tables : List Stored) (more : List (List Column)) (r : ℕ) → rows_at (tables ++ map empty_table more) r ≡ rows_at tables r
rows_more tables more r =
    elim (cases_lt r (length tables)) [
      | inl within ↦ ap (λ t. t.rows) (get_or_append_left tables (map empty_table more) blank r within)
      | inr past ↦
          ap (λ t. t.rows) (get_or-append_right tables (map empty_table more) (length tables) r blank refl past)
          ∙ no_rows more (r - length tables)
          ∙ sym (ap (λ t. t.rows) (get_or_past tables r blank past))
    ]

columns_before : (old new : SchemaValue) (more : List (List Column)) (r : ℕ) → relation_columns new ≡ relation_columns old ++ more → r < length old.relations → columns_at new r ≡ columns_at old r
columns_before old new more r is within =
    ap (λ (cs : List (List Column)). get_or cs r []) is ∙ get_or_append_left (relation_columns old) more [] r (omega (arith, within, length-map old.relations (λ r. r.columns)))

columns_after : (old new : SchemaValue) (more : List (List Column)) (r : ℕ) → relation_columns new ≡ relation_columns old ++ more → length old.relations ≤ r → columns_at new r ≡ get_or more (r - length old.relations) []
columns_after old new more r is past =
    ap (λ (cs : List (List Column)). get_or cs r []) is ∙ get_or-append_right (relation_columns old) more (length old.relations) r [] (length-map old.relations (λ r. r.columns)) past

old_holds : (db : DatabaseValue) → IsWellKept db → (f o : ℕ) (fd : Dependency) (object : ObjectEntry) → slice_get db.schema.fds f ≡ Some fd → slice_get db.schema.objects o ≡ Some object → HoldsOn fd object (rows_at db.tables object.relation)
old_holds db kept f o fd object numbered placed =
    let is_fd = get_or_from_slice_get db.schema.fds f fd fd numbered in
    let is_object = get_or_from_slice_get db.schema.objects o object object placed in
    let old = kept.enforced f fd (slice_get_within db.schema.fds f fd numbered) o object (slice_get_within db.schema.objects o object placed) in
    rw (is_fd, is_object) at old

module _ (db : DatabaseValue) (schema : SchemaValue) (more : List (List Column)) (kept : IsWellKept db) (valid : IsValid schema) (relations : relation_columns schema ≡ relation_columns db.schema ++ more) where
  many : length schema.relations ≡ length db.tables + length more
  many =
      let a = length-map schema.relations (λ r. r.columns) in
      let b = length-map db.schema.relations (λ r. r.columns) in
      let c = length-append (relation_columns db.schema) more in
      omega (arith, a, b, c, ap length relations, kept.tables)

  wide : (r : ℕ) → r < length schema.relations → (table_at (db.tables ++ map empty_table more) r).width ≡ length (columns_at schema r)
  wide r less =
      elim (cases_lt r (length db.tables)) [
        | inl within ↦
            ap (λ t. t.width) (get_or_append_left db.tables (map empty_table more) blank r within) ∙ kept.widths r within
            ∙ sym (ap length (columns_before db.schema schema more r relations (omega (arith, within, kept.tables))))
        | inr past ↦
            let k : ℕ = r - length db.tables in
            let here : k < length more = omega (arith, many, less, past) in
            ap (λ t. t.width) (get_or-append_right db.tables (map empty_table more) (length db.tables) r blank refl past)
            ∙ at_width more k here
            ∙ sym (ap length (columns_after db.schema schema more r relations (omega (arith, past, kept.tables)) ∙ ap (λ (n : ℕ). get_or more (r - n) []) (sym kept.tables)))
      ]

  typed_rows : (r : ℕ) → All (HasColumnKinds (columns_at schema r)) (rows_at (db.tables ++ map empty_table more) r)
  typed_rows r =
      rw (rows_more db.tables more r) (elim (cases_lt r (length db.tables)) [
        | inl within ↦ subst (λ (cs : List Column). All (HasColumnKinds cs) (rows_at db.tables r)) (sym (columns_before db.schema schema more r relations (omega (arith, within, kept.tables)))) (kept.typed r within)
        | inr past ↦ subst (λ (rows : List (List Value)). All (HasColumnKinds (columns_at schema r)) rows) (sym (ap (λ t. t.rows) (get_or_past db.tables r blank past))) (All-nil (HasColumnKinds (columns_at schema r)))
      ])

  pub kept_more : ((f o : ℕ) (fd : Dependency) (object : ObjectEntry) → slice_get schema.fds f ≡ Some fd → slice_get schema.objects o ≡ Some object → ((slice_get db.schema.fds f ≡ Some fd) × (slice_get db.schema.objects o ≡ Some object)) ⊎ HoldsOn fd object (rows_at db.tables object.relation))
      → IsWellKept (record { schema = schema; tables = db.tables ++ map empty_table more })
  kept_more each =
      let size : length (db.tables ++ map empty_table more) ≡ length schema.relations = length-append db.tables (map empty_table more) ∙ ap (λ n. length db.tables + n) (length-map more empty_table) ∙ sym many in
      record {
        valid = valid;
        tables = size;
        widths = λ r less. wide r (omega (arith, less, size));
        typed = λ r less. typed_rows r;
        enforced = λ f df hf o do' ho.
            let fd : Dependency = get_or schema.fds f df in
            let object : ObjectEntry = get_or schema.objects o do' in
            subst (HoldsOn fd object) (sym (rows_more db.tables more object.relation))
            (elim (each f o fd object (slice_get-get_or schema.fds f df hf) (slice_get-get_or schema.objects o do' ho)) [
              | inl (old_fd, old_object) ↦ old_holds db kept f o fd object old_fd old_object
              | inr holds ↦ holds
            ]);
        few = λ r. rw (rows_more db.tables more r) (kept.few r);
        differ = λ r. rw (rows_more db.tables more r) (kept.differ r);
      }

  pub have_tables : ((o : ℕ) (object : ObjectEntry) → slice_get schema.objects o ≡ Some object → object.relation < length db.tables) → HaveTables schema db.tables
  have_tables on o object placed =
      let within = on o object placed in
      (within, kept.widths object.relation within ∙ sym (ap length (columns_before db.schema schema more object.relation relations (omega (arith, within, kept.tables)))))

-- an item of a list with one more
last_or_old : {X : Type 0} (xs : List X) (x : X) (k : ℕ) (y : X) → slice_get (xs ++ x ∷ []) k ≡ Some y → (slice_get xs k ≡ Some y) ⊎ (k ≡ length xs)
last_or_old [] x zero y there = inr refl
last_or_old [] x (suc k) y there = cc
last_or_old (z ∷ xs) x zero y there = inl there
last_or_old (z ∷ xs) x (suc k) y there = elim (last_or_old xs x k y there) [ inl old ↦ inl old | inr is ↦ inr (ap suc is) ]

same_tables : (db : DatabaseValue) (schema : SchemaValue) → IsWellKept db → IsValid schema → relation_columns schema ≡ relation_columns db.schema ++ []
    → ((f o : ℕ) (fd : Dependency) (object : ObjectEntry) → slice_get schema.fds f ≡ Some fd → slice_get schema.objects o ≡ Some object → ((slice_get db.schema.fds f ≡ Some fd) × (slice_get db.schema.objects o ≡ Some object)) ⊎ HoldsOn fd object (rows_at db.tables object.relation))
    → IsWellKept (record { schema = schema; tables = db.tables })
same_tables db schema kept valid relations each = subst (λ (tables : List Stored). IsWellKept (record { schema = schema; tables = tables })) (append-nil db.tables) (kept_more db schema [] kept valid relations each)

pub same_relations : (db : DatabaseValue) (schema : SchemaValue) → IsWellKept db → IsValid schema → schema.relations ≡ db.schema.relations → HaveTables schema db.tables
same_relations db schema kept valid same =
    have_tables db schema [] kept valid (ap (map (λ r. r.columns)) same ∙ sym (append-nil (relation_columns db.schema)))
    (λ o object placed. omega (arith, object_on schema o object valid placed, kept.tables, ap length same))

-- a schema with one more definition, which holds on the stored rows
pub kept_added : (db : DatabaseValue) (schema : SchemaValue) (definition : Definition) → IsWellKept db → IsValid schema → applied db.schema definition ≡ Ok schema → ((b : Breach) → ¬ IsNewBreach schema db.tables definition b) → IsWellKept (record { schema = schema; tables = tables_with definition db.tables })
kept_added db schema (Attribute name kind) kept valid is holds =
    let e : schema ≡ extended db.schema (Attribute name kind) = extended_is db.schema schema (Attribute name kind) is in
    same_tables db schema kept valid (ap relation_columns e ∙ sym (append-nil (relation_columns db.schema)))
    (λ f o fd object numbered placed. inl (subst (λ (s : SchemaValue). slice_get s.fds f ≡ Some fd) e numbered, subst (λ (s : SchemaValue). slice_get s.objects o ≡ Some object) e placed))
kept_added db schema (Relation name columns) kept valid is holds =
    let e : schema ≡ extended db.schema (Relation name columns) = extended_is db.schema schema (Relation name columns) is in
    kept_more db schema (columns ∷ []) kept valid (ap relation_columns e ∙ map-append (λ r. r.columns) db.schema.relations (record { name = name; columns = columns } ∷ []))
    (λ f o fd object numbered placed. inl (subst (λ (s : SchemaValue). slice_get s.fds f ≡ Some fd) e numbered, subst (λ (s : SchemaValue). slice_get s.objects o ≡ Some object) e placed))
kept_added db schema (Object name relation pairs) kept valid is holds =
    let e : schema ≡ extended db.schema (Object name relation pairs) = extended_is db.schema schema (Object name relation pairs) is in
    same_tables db schema kept valid (ap relation_columns e ∙ sym (append-nil (relation_columns db.schema)))
    (λ f o fd object numbered placed.
    let old_fd : slice_get db.schema.fds f ≡ Some fd = subst (λ (s : SchemaValue). slice_get s.fds f ≡ Some fd) e numbered in
    let there : slice_get (extended db.schema (Object name relation pairs)).objects o ≡ Some object = subst (λ (s : SchemaValue). slice_get s.objects o ≡ Some object) e placed in
    elim (last_or_old db.schema.objects _ o object there) [
      | inl old ↦ inl (old_fd, old)
      | inr last ↦
          let size : length schema.objects ≡ length db.schema.objects + 1 = ap (λ s. length s.objects) e ∙ length_push db.schema.objects _ in
          let at : o ≡ length schema.objects - 1 = omega (arith, size, last) in
          inr (λ first second here there broken. holds (record { dependency = f; object = o; first = first; second = second }) (stored_breach schema db.tables f o fd object numbered placed first second here there broken, at))
    ])
kept_added db schema (Fd left right) kept valid is holds =
    let e : schema ≡ extended db.schema (Fd left right) = extended_is db.schema schema (Fd left right) is in
    same_tables db schema kept valid (ap relation_columns e ∙ sym (append-nil (relation_columns db.schema)))
    (λ f o fd object numbered placed.
    let old_object : slice_get db.schema.objects o ≡ Some object = subst (λ (s : SchemaValue). slice_get s.objects o ≡ Some object) e placed in
    let there : slice_get (extended db.schema (Fd left right)).fds f ≡ Some fd = subst (λ (s : SchemaValue). slice_get s.fds f ≡ Some fd) e numbered in
    elim (last_or_old db.schema.fds _ f fd there) [
      | inl old ↦ inl (old, old_object)
      | inr last ↦
          let size : length schema.fds ≡ length db.schema.fds + 1 = ap (λ s. length s.fds) e ∙ length_push db.schema.fds _ in
          let at : f ≡ length schema.fds - 1 = omega (arith, size, last) in
          inr (λ first second here there broken. holds (record { dependency = f; object = o; first = first; second = second }) (stored_breach schema db.tables f o fd object numbered placed first second here there broken, at))
    ])
kept_added db schema (Maximal objects) kept valid is holds =
    let e : schema ≡ extended db.schema (Maximal objects) = extended_is db.schema schema (Maximal objects) is in
    same_tables db schema kept valid (ap relation_columns e ∙ sym (append-nil (relation_columns db.schema)))
    (λ f o fd object numbered placed. inl (subst (λ (s : SchemaValue). slice_get s.fds f ≡ Some fd) e numbered, subst (λ (s : SchemaValue). slice_get s.objects o ≡ Some object) e placed))

-- before what was added is looked at
pub added_there : (schema new : SchemaValue) (definition : Definition) → applied schema definition ≡ Ok new → HasAdded new definition
added_there schema new (Attribute name kind) is = tt
added_there schema new (Relation name columns) is = tt
added_there schema new (Object name relation pairs) is =
    let size : length new.objects ≡ length schema.objects + 1 = ap (λ s. length s.objects) (extended_is schema new (Object name relation pairs) is) ∙ length_push schema.objects _ in
    omega (arith, size)
added_there schema new (Fd left right) is =
    let size : length new.fds ≡ length schema.fds + 1 = ap (λ s. length s.fds) (extended_is schema new (Fd left right) is) ∙ length_push schema.fds _ in
    omega (arith, size)
added_there schema new (Maximal objects) is = tt

pub tables_there : (db : DatabaseValue) (schema : SchemaValue) (definition : Definition) → IsWellKept db → IsValid schema → applied db.schema definition ≡ Ok schema → HaveTables schema db.tables
tables_there db schema (Attribute name kind) kept valid is =
    let e : schema ≡ extended db.schema (Attribute name kind) = extended_is db.schema schema (Attribute name kind) is in
    same_relations db schema kept valid (ap (λ s. s.relations) e)
tables_there db schema (Relation name columns) kept valid is =
    let e : schema ≡ extended db.schema (Relation name columns) = extended_is db.schema schema (Relation name columns) is in
    have_tables db schema (columns ∷ []) kept valid (ap relation_columns e ∙ map-append (λ r. r.columns) db.schema.relations (record { name = name; columns = columns } ∷ []))
    (λ o object placed.
    let old : slice_get db.schema.objects o ≡ Some object = subst (λ (s : SchemaValue). slice_get s.objects o ≡ Some object) e placed in
    omega (arith, object_on db.schema o object kept.valid old, kept.tables))
tables_there db schema (Object name relation pairs) kept valid is =
    let e : schema ≡ extended db.schema (Object name relation pairs) = extended_is db.schema schema (Object name relation pairs) is in
    same_relations db schema kept valid (ap (λ s. s.relations) e)
tables_there db schema (Fd left right) kept valid is =
    let e : schema ≡ extended db.schema (Fd left right) = extended_is db.schema schema (Fd left right) is in
    same_relations db schema kept valid (ap (λ s. s.relations) e)
tables_there db schema (Maximal objects) kept valid is =
    let e : schema ≡ extended db.schema (Maximal objects) = extended_is db.schema schema (Maximal objects) is in
    same_relations db schema kept valid (ap (λ s. s.relations) e)

pub narrow : (schema new : SchemaValue) (definition : Definition) → applied schema definition ≡ Ok new → IsValid new → IsNarrow definition
narrow schema new (Attribute name kind) is valid = tt
narrow schema new (Relation name columns) is valid =
    let own : RelationEntry = record { name = name; columns = columns } in
    let e : new ≡ extended schema (Relation name columns) = extended_is schema new (Relation name columns) is in
    let last : get_or new.relations (length schema.relations) own ≡ own = ap (λ s. get_or s.relations (length schema.relations) own) e ∙ get_or_push schema.relations own own (length schema.relations) refl in
    let one : IsRelationEntry (get_or new.relations (length schema.relations) own) = valid.relations (length schema.relations) own (omega (arith, ap (λ s. length s.relations) e, length_push schema.relations own)) in
    omega (arith, one.few, ap (λ r. length r.columns) last)
narrow schema new (Object name relation pairs) is valid = tt
narrow schema new (Fd left right) is valid = tt
narrow schema new (Maximal objects) is valid = tt

-- a refusal of what was added
pub refused_added : (db : DatabaseValue) (schema : SchemaValue) (definition : Definition) (fault : DefineFault) → applied db.schema definition ≡ Ok schema → TellsFirst schema (IsNewBreach schema db.tables definition) fault → (fault ≡ NoMemory) ⊎ Defines db definition (Err fault) db
refused_added db schema definition (Schema fault) is refused = absurd refused
refused_added db schema definition (Breaks fd name first second) is (b, first_of, told) = inr ((schema, b, is, first_of, told), refl)
refused_added db schema definition NoMemory is refused = inl refl
