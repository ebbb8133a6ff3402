-- Where the relations are projections of a universal relation, a row is read exactly where it agrees with a row of that.
use Rattle.std.proofs.Common.{◌≡◌, ◌↔◌, ℕ, ◌<◌, true, List, [], map, length, get_or, Contains, Option, Some, All, sym, ap, ◌∙◌, subst, pos, arith}
use Rattle.std.specs.Prelude.{slice_get, option_and_then, unwrap_or}
use Rattle.std.specs.Int.{bit_at}
use Rattle.std.specs.List.{range_with_len}
use Rattle.std.specs.FinSet.{contains}
use Rattle.std.proofs.lemmas.List.{length-map}
use Rattle.std.proofs.lemmas.List.Elements.{All-contains}
use Rattle.std.proofs.lemmas.List.FromFn.{length-map-range_with_len}
use Rattle.std.proofs.lemmas.Option.{slice_get_within, slice_get-get_or}
use Rattle.su_base.specs.declared.values.Kind.{Kind}
use Rattle.su_base.specs.declared.values.Column.{Column}
use Rattle.su_base.specs.declared.values.Value.{Value}
use Rattle.su_base.specs.declared.values.Value.TheVariants.{Int}
use Rattle.su_base.specs.Value.{kind_of}
use Rattle.su_base.proofs.Items.{Contains-map, Contains-map_source, get_or-map_range}
use Rattle.su_tableau.specs.declared.symbols.Sym.{Sym}
use Rattle.su_tableau.specs.Tableaux.{Tab}
use Rattle.su_tableau.specs.Valuations.{value_of}
use Rattle.su_tableau.specs.Kinds.{IsUniverse}
use Rattle.su_tableau.specs.Essential.{HasSymbol, AgreesOn, ExtByEssential}
use Rattle.su_schema.specs.SchemaValue.{SchemaValue, ObjectEntry}
use Rattle.su_schema.specs.Entries.{attribute_kinds}
use Rattle.su_schema.specs.Known.{columns_at}
use Rattle.su_state.specs.DatabaseValue.{DatabaseValue, IsWellKept, HasColumnKinds, rows_of, columns_of}
use Rattle.su_state.specs.Enforced.{read}
use Rattle.su_steps.specs.Objects.{width, attributes_at}
use Rattle.su_steps.specs.Expression.{cut, Agree}
use Rattle.su_steps.specs.Sources.{IsSource}
use Rattle.su_answer.specs.Answers.{IsRead, StoredAnswer}
use Rattle.su_answer.specs.Projections.{value_for, taken, view_through, view_of, AreProjections}
use Rattle.su_state.proofs.Columns.{column_within, column_of_attribute}
use Rattle.su_answer.proofs.Columns.{object_is, attributes_by}
use Rattle.su_steps.proofs.ValueCuts.{cut_agrees}

-- every row of the set has a source
abbrev pub HaveSources : SchemaValue → Tab → ℕ → Type 0
HaveSources schema t m = (i : ℕ) → i < length t.rows → bit_at m i ≡ 1 → (o : ℕ) × IsSource schema t m i o

module _ (db : DatabaseValue) (t : Tab) (m : ℕ) (universe : List (List Value)) (kept : IsWellKept db) (wide : t.width ≡ width db.schema) (rows_wide : All (λ row. length row ≡ t.width) t.rows) (kinds : IsUniverse (attribute_kinds db.schema) universe) (projections : AreProjections db universe) where
  spread : ObjectEntry → List Value → List Value
  spread object row = map (value_for object row) (range_with_len 0 (width db.schema))

  row_length : (u : List Value) → Contains universe u → length u ≡ width db.schema
  row_length u c =
      let typed : map kind_of u ≡ attribute_kinds db.schema = All-contains (λ row. map kind_of row ≡ attribute_kinds db.schema) universe u kinds c in
      sym (length-map u kind_of) ∙ ap (λ (ks : List Kind). length ks) typed

  spread_length : (object : ObjectEntry) (row : List Value) → length (spread object row) ≡ width db.schema
  unfolding spread
  spread_length object row = length-map-range_with_len (value_for object row) 0 (width db.schema)

  spread_at : (object : ObjectEntry) (row : List Value) (c : ℕ) (d : Value) → c < width db.schema → get_or (spread object row) c d ≡ value_for object row c
  unfolding spread
  spread_at object row c d low = get_or-map_range (value_for object row) (width db.schema) c d low

  column_low : (i c : ℕ) (x : Sym) → HasSymbol t m i c x → c < width db.schema
  column_low i c x h =
      let l : c < length (get_or t.rows i []) = h.cell.below in
      let w : length (get_or t.rows i []) ≡ t.width = rows_wide i [] h.row_in in
      omega (arith, l, w, wide)

  pub read_agrees : (v : ℕ → Value) (i : ℕ) → IsRead db t m v i → (u : List Value) × Contains universe u × AgreesOn t m v i u
  unfolding spread
  read_agrees v i r =
      let s = attributes_at db.schema r.source in
      let same = attributes_by db.schema r.source r.object r.is in
      let seen : Contains (view_of db r.source) (taken db.schema r.object r.row) =
      subst (λ (o : Option ObjectEntry). Contains (view_through db o) (taken db.schema r.object r.row)) (sym r.is) (Contains-map (taken db.schema r.object) (rows_of db r.object.relation) r.row r.stored) in
      let w = Contains-map_source (cut s) universe (taken db.schema r.object r.row) ((projections r.source r.is_source.object (taken db.schema r.object r.row)).0 seen) in
      let agree : Agree s w.0 (spread r.object r.row) = (cut_agrees s w.0 (spread r.object r.row) (row_length w.0 w.1 ∙ sym (spread_length r.object r.row))).0 (w.2 ∙ ap (λ q. cut q (spread r.object r.row)) (sym same)) in (
        w.0,
        w.1,
        λ c x h e d.
            agree c d (r.is_source.has_columns c e) ∙ spread_at r.object r.row c d (column_low i c x h) ∙ ap (λ o. unwrap_or o (Int (pos 0))) (r.agrees c x h e),
      )

  pub agrees_read : (v : ℕ → Value) (i : ℕ) (u : List Value) → ((o : ℕ) × IsSource db.schema t m i o) → Contains universe u → AgreesOn t m v i u → IsRead db t m v i
  unfolding spread
  agrees_read v i u source in_universe on =
      let o = source.0 in
      let none : ObjectEntry = record { name = []; relation = 0; links = [] } in
      let object = get_or db.schema.objects o none in
      let is : slice_get db.schema.objects o ≡ Some object = slice_get-get_or db.schema.objects o none source.1.object in
      let s = attributes_at db.schema o in
      let same = attributes_by db.schema o object is in
      let cut_in : Contains (view_of db o) (cut s u) = (projections o source.1.object (cut s u)).1 (Contains-map (cut s) universe u in_universe) in
      let w = Contains-map_source (taken db.schema object) (rows_of db object.relation) (cut s u) (subst (λ (q : Option ObjectEntry). Contains (view_through db q) (cut s u)) is cut_in) in
      let agree : Agree s (spread object w.0) u = (cut_agrees s (spread object w.0) u (spread_length object w.0 ∙ sym (row_length u in_universe))).0 (ap (λ q. cut q (spread object w.0)) same ∙ w.2) in
      let own = object_is db.schema o object kept.valid is in
      let low : object.relation < length db.tables = let l = slice_get_within db.schema.relations object.relation own.relation own.stored in let k = kept.tables in omega (arith, l, k) in
      let typed : map kind_of w.0 ≡ map (λ (q : Column). q.kind) (columns_of db object.relation) = All-contains (HasColumnKinds (columns_of db object.relation)) (rows_of db object.relation) w.0 (kept.typed object.relation low) w.1 in
      let row_wide : length w.0 ≡ length (columns_at db.schema object.relation) = sym (length-map w.0 kind_of) ∙ ap (λ (ks : List Kind). length ks) typed ∙ length-map (columns_of db object.relation) (λ (q : Column). q.kind) in
      record {
        source = o;
        is_source = source.1;
        object = object;
        is = is;
        row = w.0;
        stored = w.1;
        agrees = λ c x h e.
            let has = source.1.has_columns c e in
            let k = column_of_attribute object c (subst (λ q. contains q c ≡ true) same has) in
            let within = column_within db.schema o object c k.0 kept.valid is k.1 in
            let here : slice_get w.0 k.0 ≡ Some (get_or w.0 k.0 (Int (pos 0))) = slice_get-get_or w.0 k.0 (Int (pos 0)) (omega (arith, within, row_wide)) in
            let found : read object c w.0 ≡ Some (get_or w.0 k.0 (Int (pos 0))) = ap (option_and_then (slice_get w.0)) k.1 ∙ here in
            let value : get_or w.0 k.0 (Int (pos 0)) ≡ value_of v x =
            sym (ap (λ q. unwrap_or q (Int (pos 0))) found) ∙ sym (spread_at object w.0 c (Int (pos 0)) (column_low i c x h)) ∙ agree c (Int (pos 0)) has ∙ on c x h e (Int (pos 0)) in
            found ∙ ap Some value;
      }

  pub stored_is_ext : HaveSources db.schema t m → (h : List Value) → StoredAnswer db t m h ↔ ExtByEssential t m universe h
  stored_is_ext sources h = (
    λ a. record { valuation = a.valuation; holds = λ i low set. read_agrees a.valuation i (a.holds i low set); gives = a.gives },
    λ e. record {
      valuation = e.valuation;
      holds = λ i low set. let w = e.holds i low set in agrees_read e.valuation i w.0 (sources i low set) w.1 w.2;
      gives = e.gives;
    },
  )
