-- Each padded row stands for a row of any universal relation that fits, so its classes have one value there.
use Rattle.std.proofs.Common.{◌≡◌, ℕ, ◌+◌, ◌*◌, ◌%◌, ◌/◌, ◌<◌, ◌≤◌, ⊎_elim, true, List, [], map, length, get_or, Contains, refl, sym, ap, ◌∙◌, subst, pos, arith, inl, inr}
use Rattle.std.proofs.Math.ListN.{get_or-map as map_read}
use Rattle.std.specs.Prelude.{All}
use Rattle.std.specs.List.{range_with_len}
use Rattle.std.specs.FinSet.{contains}
use Rattle.std.proofs.lemmas.Bool.{cases_Bool, cases_lt}
use Rattle.std.proofs.lemmas.List.{length-map, get_or_default, map-id}
use Rattle.std.proofs.lemmas.List.Elements.{All-contains, Contains-get_or}
use Rattle.std.proofs.lemmas.List.FromFn.{length-map-range_with_len, fill_by_all}
use Rattle.std.proofs.lemmas.Nat.{mod-mul-add, div-mul-add}
use Rattle.su_base.specs.declared.values.Kind.{Kind}
use Rattle.su_base.specs.declared.values.Value.{Value}
use Rattle.su_base.specs.declared.values.Value.TheVariants.{Int}
use Rattle.su_base.specs.Value.{kind_of}
use Rattle.su_base.proofs.Items.{Contains-map, Contains-map_source, All-members, get_or-map_range, map-map_equal, map-equal_at}
use Rattle.su_tableau.specs.declared.symbols.Sym.{Sym}
use Rattle.su_tableau.specs.declared.symbols.Sym.TheVariants.{Const, Var}
use Rattle.su_tableau.specs.Valuations.{values_at, value_of, values_of, Sends}
use Rattle.su_schema.specs.SchemaValue.{ObjectEntry}
use Rattle.su_schema.specs.Entries.{attribute_kinds}
use Rattle.su_state.specs.DatabaseValue.{DatabaseValue, IsWellKept}
use Rattle.su_chase.specs.Chase.{IsClassName, IsClash}
use Rattle.su_fd.specs.MetDependencies.{Agree}
use Rattle.su_chase.proofs.NamedAnswers.{one_value}
use Rattle.su_window.specs.declared.readings.Reading.{Reading}
use Rattle.su_schema.specs.Cuts.{width, attributes_at, cut}
use Rattle.su_state.specs.Views.{value_for, taken}
use Rattle.su_window.specs.Window.{Fits}
use Rattle.su_window.specs.Members.{IsMember}
use Rattle.su_window.specs.Padded.{object_at, row_read, member_read, IsReading, AreReadings, padded, padded_row, padded_rows}
use Rattle.su_schema.proofs.Cuts.{cut_agrees}
use Rattle.su_window.proofs.Objects.{attributes_are}
use Rattle.su_window.proofs.Rows.{none, reading_at, of_rows, row_length, constant_cell, variable_cell}

abbrev zero_value : Value
zero_value = Int (pos 0)

-- the names of a row's symbols at the attributes are these constants
abbrev pub AreNamed : (Sym → Sym) → List Sym → List ℕ → List Value → Type 0
AreNamed name row attributes h = map (λ a. name (get_or row a (Var 0))) attributes ≡ map Const h

module _ (db : DatabaseValue) (kept : IsWellKept db) (readings : List Reading) (are : AreReadings db readings) (universe : List (List Value)) (fits : Fits db universe) where
  abbrev n : ℕ
  n = width db.schema

  pub universe_long : (w : List Value) → Contains universe w → length w ≡ n
  universe_long w c = sym (length-map w kind_of) ∙ ap (λ (ks : List Kind). length ks) (All-contains (λ (row : List Value). map kind_of row ≡ attribute_kinds db.schema) universe w fits.kinds c)

  -- the row has the reading's values at its object's attributes
  abbrev StandsFor : Reading → List Value → Type 0
  StandsFor r w = (a : ℕ) → a < n → contains (attributes_at db.schema r.object) a ≡ true → get_or w a zero_value ≡ value_for (object_at db.schema r.object) (row_read db r) a

  picked : (i : ℕ) → i < length readings → (w : List Value) × Contains universe w × StandsFor (reading_at readings i) w
  picked i l =
      let r = reading_at readings i in
      let is : IsReading db r = are.each i none l in
      let object : ObjectEntry = object_at db.schema r.object in
      let x : List Value = taken db.schema object (row_read db r) in
      let spread : List Value = map (value_for object (row_read db r)) (range_with_len 0 n) in
      let member : IsMember db (member_read db r) = (are.members.exact (member_read db r)).0 (Contains-map (member_read db) readings r (Contains-get_or readings i none l)) in
      let w = Contains-map_source (cut (attributes_at db.schema r.object)) universe x (fits.includes r.object x is.object member) in
      let same : cut (attributes_at db.schema r.object) w.0 ≡ cut (attributes_at db.schema r.object) spread = w.2 ∙ ap (λ s. cut s spread) (sym (attributes_are db kept r.object is.object)) in
      let long : length w.0 ≡ length spread = universe_long w.0 w.1 ∙ sym (length-map-range_with_len (value_for object (row_read db r)) 0 n) in
      let agree : Agree (attributes_at db.schema r.object) w.0 spread = (cut_agrees (attributes_at db.schema r.object) w.0 spread long).0 same in
      (w.0, w.1, λ a low own. agree a zero_value own ∙ get_or-map_range (value_for object (row_read db r)) n a zero_value low)

  -- a row for each number, which is a row of the universal relation where there is a reading
  abbrev Choice : ℕ → Type 0
  Choice i = (w : List Value) × (i < length readings → Contains universe w × StandsFor (reading_at readings i) w)

  choice : (i : ℕ) → Choice i
  choice i =
      ⊎_elim
      (λ (l : i < length readings). let p = picked i l in (p.0, λ _. (p.1, p.2)))
      (λ (g : length readings ≤ i). ([], λ (l : i < length readings). absurd (omega arith)))
      (cases_lt i (length readings))

  pub chosen : ℕ → List Value
  chosen i = (choice i).0

  pub chosen_in : (i : ℕ) → i < length readings → Contains universe (chosen i)
  unfolding chosen
  chosen_in i l = ((choice i).1 l).0

  stands : (i : ℕ) → i < length readings → StandsFor (reading_at readings i) (chosen i)
  unfolding chosen
  stands i l = ((choice i).1 l).1

  -- the pads are read off the chosen rows
  pub valuation : ℕ → Value
  valuation k = get_or (chosen (k / n)) (k % n) zero_value

  cell_value : (i a : ℕ) → i < length readings → a < n → value_of valuation (padded db i (reading_at readings i) a) ≡ get_or (chosen i) a zero_value
  unfolding valuation
  cell_value i a l low =
      elim (cases_Bool (contains (attributes_at db.schema (reading_at readings i).object) a)) [
        | inl t ↦ ap (value_of valuation) (constant_cell db i (reading_at readings i) a t) ∙ sym (stands i l a low t)
        | inr f ↦
            ap (value_of valuation) (variable_cell db i (reading_at readings i) a f)
            ∙ ap (λ (k : ℕ). get_or (chosen k) ((i * n + a) % n) zero_value) (div-mul-add i n a low)
            ∙ ap (λ (k : ℕ). get_or (chosen i) k zero_value) (mod-mul-add i n a low)
      ]

  pub row_values : (i : ℕ) → i < length readings → values_of valuation (padded_row db i (reading_at readings i)) ≡ chosen i
  row_values i l =
      map-map_equal (padded db i (reading_at readings i)) (value_of valuation) (λ a. value_of valuation (padded db i (reading_at readings i) a)) (λ a. refl) (range_with_len 0 n)
      ∙ sym (fill_by_all (λ a. value_of valuation (padded db i (reading_at readings i) a)) (chosen i) n zero_value (universe_long (chosen i) (chosen_in i l)) (λ a low. sym (cell_value i a l low)))

  pub sends : Sends valuation (padded_rows db readings) universe
  sends =
      All-members (λ (row : List Sym). Contains universe (values_of valuation row)) (padded_rows db readings)
      (λ row c.
      let w = of_rows db readings row c in
      subst (λ (x : List Sym). Contains universe (values_of valuation x)) w.2 (subst (Contains universe) (sym (row_values w.0 w.1)) (chosen_in w.0 w.1)))

  -- a clash leaves no universal relation
  pub no_clash : (less greater : Value) → IsClash db.schema.fds (padded_rows db readings) less greater → ⊥
  no_clash less greater clash = clash.differ (one_value db.schema.fds (padded_rows db readings) universe fits.meets valuation sends (Const less) (Const greater) clash.together)

  -- constants that name a row's symbols are the values of the chosen row
  pub has_constants : (name : Sym → Sym) → ((x : Sym) → IsClassName db.schema.fds (padded_rows db readings) x (name x)) → (attributes : List ℕ) → All (λ a. a < n) attributes → (row : List Sym) → Contains (padded_rows db readings) row → (h : List Value) → AreNamed name row attributes h → (w : List Value) × Contains universe w × (values_at attributes w ≡ h)
  has_constants name named attributes low row c h constant =
      let i = of_rows db readings row c in
      let w : List Value = chosen i.0 in
      let values : values_of valuation row ≡ w = ap (values_of valuation) (sym i.2) ∙ row_values i.0 i.1 in
      let long : length row ≡ n = ap (λ (x : List Sym). length x) (sym i.2) ∙ row_length db i.0 (reading_at readings i.0) in
      let value : (a : ℕ) → Contains attributes a → value_of valuation (name (get_or row a (Var 0))) ≡ get_or w a zero_value = λ a ca.
      let la : a < n = All-contains (λ (b : ℕ). b < n) attributes a low ca in
      sym (one_value db.schema.fds (padded_rows db readings) universe fits.meets valuation sends (get_or row a (Var 0)) (name (get_or row a (Var 0))) (named (get_or row a (Var 0))).member)
      ∙ sym (map_read (value_of valuation) row a (Var 0)) ∙ get_or_default (values_of valuation row) a (value_of valuation (Var 0)) zero_value (let e = length-map row (value_of valuation) in omega (arith, la, long, e))
      ∙ ap (λ (x : List Value). get_or x a zero_value) values in
      let left : map (value_of valuation) (map (λ a. name (get_or row a (Var 0))) attributes) ≡ values_at attributes w =
      map-map_equal (λ a. name (get_or row a (Var 0))) (value_of valuation) (λ a. value_of valuation (name (get_or row a (Var 0)))) (λ a. refl) attributes
      ∙ map-equal_at (λ a. value_of valuation (name (get_or row a (Var 0)))) (λ a. get_or w a zero_value) attributes value in
      let right : map (value_of valuation) (map Const h) ≡ h = map-map_equal Const (value_of valuation) (λ x. x) (λ x. refl) h ∙ map-id h in
      (w, chosen_in i.0 i.1, sym left ∙ ap (map (value_of valuation)) constant ∙ right)
