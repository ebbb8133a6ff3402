-- The first breach among stored rows, from the least pair that clashes on the columns of the two sides.
use Rattle.std.proofs.Common.{◌≡◌, ◌<◌, ℕ, List, [], length, map, slice_get, slice_index_or, get_or, Some, refl, sym, ap, subst, ◌∙◌, Contains, arith}
use Rattle.std.specs.Prelude.{option_map}
use Rattle.std.specs.FinSet.{empty}
use Rattle.std.proofs.lemmas.Option.{slice_get-map, get_or_from_slice_get}
use Rattle.std.proofs.lemmas.List.{get_or_read}
use Rattle.su_base.specs.declared.values.Value.{Value}
use Rattle.su_fd.specs.declared.dependencies.Fd.{Fd}
use Rattle.su_rel.specs.Stored.{Stored}
use Rattle.su_schema.specs.SchemaValue.{SchemaValue, ObjectEntry}
use Rattle.su_schema.specs.Known.{columns_at}
use Rattle.su_index.specs.Tables.{table_at, rows_at}
use Rattle.su_state.specs.Enforced.{Break}
use Rattle.su_state.specs.Breaches.{Breach, fd_at, IsFirstOf}
use Rattle.su_state.specs.NewBreaches.{IsStoredBreach, told}
use Rattle.su_state.specs.declared.faults.DefineFault.{DefineFault}
use Rattle.su_state.specs.declared.faults.DefineFault.TheVariants.{Schema, Breaks, NoMemory}
use Rattle.su_state.specs.declared.sides.Sides.{Sides}
use Rattle.su_state.specs.inside.Sides.{AreSidesOf, Clash}
use Rattle.su_state.specs.inside.Pairs.{IsLeastPair}
use Rattle.su_state.specs.inside.SomeBreaches.{OfDependency, ThroughObject}
use Rattle.su_state.specs.inside.AddedDefinitions.{HaveTables, TellsFirst}
use Rattle.su_state.proofs.BreachOrder.{breach_at_most}
use Rattle.su_state.proofs.BrokenDependency.{own_break, own_breach}
use Rattle.su_state.proofs.Columns.{break_from_clash, clash_from_break}

module _ (schema : SchemaValue) (tables : List Stored) (f o : ℕ) (fd : Fd) (entry : ObjectEntry) (numbered : slice_get schema.fds f ≡ Some fd) (placed : slice_get schema.objects o ≡ Some entry) where
  -- rows that break the dependency through the object
  pub stored_breach : (first second : List Value) → Contains (rows_at tables entry.relation) first → Contains (rows_at tables entry.relation) second → Break fd entry first second
      → IsStoredBreach schema tables (record { dependency = f; object = o; first = first; second = second })
  stored_breach first second here there broken = record {
    relation = entry.relation;
    breach = own_breach schema f o fd entry numbered placed entry.relation first second refl broken;
    stored = (here, there);
  }

  -- the dependency is told by itself, the object by its name
  pub told_is : (name : List ℕ) (first second : List Value) → name ≡ entry.name → Breaks fd name first second ≡ told schema (record { dependency = f; object = o; first = first; second = second })
  told_is name first second named =
      let one : fd ≡ fd_at schema f = sym (get_or_from_slice_get schema.fds f fd (record { left = empty; right = empty }) numbered) in
      let there : slice_get (map (λ (e : ObjectEntry). e.name) schema.objects) o ≡ Some entry.name = slice_get-map (λ (e : ObjectEntry). e.name) schema.objects o ∙ ap (option_map (λ (e : ObjectEntry). e.name)) placed in
      let two : name ≡ slice_index_or (map (λ (e : ObjectEntry). e.name) schema.objects) o [] = named ∙ sym (get_or_from_slice_get (map (λ (e : ObjectEntry). e.name) schema.objects) o entry.name [] there) in
      λ i. Breaks (one i) (two i) first second

module _ (schema : SchemaValue) (tables : List Stored) (f o r : ℕ) (fd : Fd) (entry : ObjectEntry) (table : Stored) (numbered : slice_get schema.fds f ≡ Some fd) (placed : slice_get schema.objects o ≡ Some entry) (have : HaveTables schema tables) (on : entry.relation ≡ r) (read : table ≡ get_or tables r table) where
  own_table : table ≡ table_at tables entry.relation
  own_table =
      let within : r < length tables = subst (λ (q : ℕ). q < length tables) on (have o entry placed).0 in
      get_or_read tables r table within read (record { width = 0; rows = [] }) ∙ ap (table_at tables) (sym on)

  pub own_width : table.width ≡ length (columns_at schema entry.relation)
  own_width = ap (λ t. t.width) own_table ∙ (have o entry placed).1

  -- the breaches of this dependency through this object
  abbrev pub OfOwn : Breach → Type 0
  OfOwn = ThroughObject o (OfDependency f (IsStoredBreach schema tables))

  own_rows : (b : Breach) → OfOwn b → Contains table.rows b.first × Contains table.rows b.second × Break fd entry b.first b.second
  own_rows b h =
      let stored : IsStoredBreach schema tables b = h.0.0 in
      let breaks = own_break schema f o fd entry numbered placed stored.relation b stored.breach h.0.1 h.1 in
      let in_table : (x : List Value) → Contains (rows_at tables stored.relation) x → Contains table.rows x =
      λ x there. subst (λ (t : Stored). Contains t.rows x) (sym own_table) (subst (λ (q : ℕ). Contains (rows_at tables q) x) (sym breaks.1) there) in
      (in_table b.first stored.stored.0, in_table b.second stored.stored.1, breaks.0)

  pub none_stored : (sides : Sides) → AreSidesOf entry fd sides → ((row other : List Value) → Contains table.rows row → Contains table.rows other → ¬ Clash sides row other) → (b : Breach) → ¬ OfOwn b
  none_stored sides are none b h =
      let own = own_rows b h in
      none b.first b.second own.0 own.1 (clash_from_break entry fd sides b.first b.second are own.2)

  pub least_stored : (sides : Sides) (first second : List Value) → AreSidesOf entry fd sides → IsLeastPair sides table.rows first second → IsFirstOf OfOwn (record { dependency = f; object = o; first = first; second = second })
  least_stored sides first second are pair =
      let here : Breach = record { dependency = f; object = o; first = first; second = second } in
      let in_tables : (x : List Value) → Contains table.rows x → Contains (rows_at tables entry.relation) x = λ x there. subst (λ (t : Stored). Contains t.rows x) own_table there in
      let broken : Break fd entry first second = break_from_clash entry fd sides first second are pair.partner.clash in
      let stored : IsStoredBreach schema tables here = stored_breach schema tables f o fd entry numbered placed first second (in_tables first pair.stored) (in_tables second pair.partner.stored) broken in (
        ((stored, refl), refl),
        λ b h.
            let own = own_rows b h in
            breach_at_most here b
            (λ less. absurd (let same : b.dependency ≡ f = h.0.1 in omega (arith, less, same)))
            (λ _ less. absurd (let same : b.object ≡ o = h.1 in omega (arith, less, same)))
            (λ _ _. pair.least b.first b.second own.0 own.1 (clash_from_break entry fd sides b.first b.second are own.2))
            (λ _ _ same. pair.partner.least b.second own.1 (clash_from_break entry fd sides first b.second are (subst (λ (x : List Value). Break fd entry x b.second) (sym same) own.2))),
      )

-- a fault that tells the first of some breaches tells that of others, of which it is the first too
pub tells_as : (schema : SchemaValue) (Among Others : Breach → Type 0) → ((b : Breach) → IsFirstOf Among b → IsFirstOf Others b) → (fault : DefineFault) → TellsFirst schema Among fault → TellsFirst schema Others fault
tells_as schema Among Others first_too (Breaks fd name first second) (b, is_first, is_told) = (b, first_too b is_first, is_told)
tells_as schema Among Others first_too NoMemory tells = tt
tells_as schema Among Others first_too (Schema fault) tells = absurd tells
