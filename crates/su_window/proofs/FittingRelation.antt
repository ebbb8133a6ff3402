-- Where no two constants meet, the chased rows with new values for their variables are a universal relation that fits.
use Rattle.std.proofs.Common.{◌≡◌, ℕ, zero, suc, ◌+◌, ◌<◌, ◌≤◌, ⊎_elim, List, [], ◌∷◌, map, length, get_or, Contains, refl, sym, ap, ◌∙◌, subst, pos, arith}
use Rattle.std.proofs.Math.ListN.{get_or-map as map_read}
use Rattle.std.specs.Prelude.{All}
use Rattle.std.specs.List.{range_with_len}
use Rattle.std.proofs.lemmas.Bool.{cases_lt}
use Rattle.std.proofs.lemmas.List.{length-map, get_or_default, get_or_past}
use Rattle.std.proofs.lemmas.List.Elements.{All-contains}
use Rattle.std.proofs.lemmas.List.FromFn.{length-map-range_with_len}
use Rattle.su_base.specs.declared.values.Kind.{Kind}
use Rattle.su_base.specs.declared.values.Value.{Value}
use Rattle.su_base.specs.declared.values.Value.TheVariants.{Int}
use Rattle.su_base.proofs.Items.{Contains-map, Contains-map_source, All-members, get_or-map_range, map-map_equal, map-equal_at}
use Rattle.su_fd.specs.declared.dependencies.Fd.{Fd}
use Rattle.su_tableau.specs.declared.symbols.Sym.{Sym}
use Rattle.su_tableau.specs.declared.symbols.Sym.TheVariants.{Const, Var}
use Rattle.su_tableau.specs.Valuations.{values_at, value_of, values_of}
use Rattle.su_tableau.specs.Kinds.{IsTyped}
use Rattle.su_tableau.specs.FrozenTableaux.{frozen, top, row_top, rows_top}
use Rattle.su_tableau.proofs.FrozenTableaux.{frozen_typed, thawed, thawed_frozen}
use Rattle.su_schema.specs.SchemaValue.{ObjectEntry}
use Rattle.su_schema.specs.Entries.{attribute_kinds}
use Rattle.su_state.specs.DatabaseValue.{DatabaseValue, IsWellKept}
use Rattle.su_chase.specs.Chase.{IsClosedPartition, IsClassName}
use Rattle.su_fd.specs.MetDependencies.{Agree, Meets}
use Rattle.su_chase.specs.inside.Rows.{named_tab}
use Rattle.su_chase.proofs.NamedAnswers as answering
use Rattle.su_chase.proofs.NamedAnswers.{settled}
use Rattle.su_window.specs.declared.readings.Reading.{Reading}
use Rattle.su_schema.specs.Cuts.{width, attributes_at, cut, cuts}
use Rattle.su_state.specs.Views.{value_for, taken}
use Rattle.su_window.specs.Window.{Fits, Includes, InWindow}
use Rattle.su_window.specs.Members.{Member}
use Rattle.su_window.specs.Padded.{object_at, row_read, member_read, IsReading, AreReadings, padded_row, padded_rows}
use Rattle.su_schema.proofs.Cuts.{cut_agrees}
use Rattle.su_window.proofs.Objects.{attributes_are}
use Rattle.su_window.proofs.Picked.{AreNamed}
use Rattle.su_window.proofs.Rows.{none, reading_at, tableau, typed, rows_long, row_length, fds_below, in_rows, cell_is, constant_cell}

-- ---- new values are read back

top_at : (row : List Sym) (a : ℕ) (d : Sym) → a < length row → top (get_or row a d) ≤ row_top row
top_at [] a d h = absurd (omega arith)
top_at (x ∷ xs) zero d h = omega arith
top_at (x ∷ xs) (suc a) d h = let i = top_at xs a d (omega arith) in omega arith

row_top_at : (rows : List (List Sym)) (row : List Sym) → Contains rows row → row_top row ≤ rows_top rows
row_top_at [] row c = absurd (let l = c.1 in omega arith)
row_top_at (x ∷ xs) row (zero, l, e) = let same = ap row_top e in omega arith
row_top_at (x ∷ xs) row (suc k, l, e) = let i = row_top_at xs row (k, omega arith, e) in omega arith

all_thawed : (f : ℕ → Kind) (n : ℕ) (h : List Value) → row_top (map Const h) ≤ n → map (thawed n) h ≡ map Const h
all_thawed f n [] l = refl
all_thawed f n (c ∷ h) l =
    let i = all_thawed f n h (omega arith) in
    let j = thawed_frozen f n (Const c) (omega arith) in
    cc

-- ---- settled rows with new values meet the dependencies

module _ (fds : List Fd) (rows : List (List Sym)) (width : ℕ) (widths : All (λ row. length row ≡ width) rows) (f : ℕ → Kind) (n : ℕ) (high : rows_top rows ≤ n) where
  abbrev z : ℕ → Value
  z = frozen f n

  same_symbol : (r q : List Sym) (a : ℕ) (d : Sym) → Contains rows r → Contains rows q → value_of z (get_or r a d) ≡ value_of z (get_or q a d) → get_or r a d ≡ get_or q a d
  same_symbol r q a d cr cq e =
      let wide_r : length r ≡ width = All-contains (λ (row : List Sym). length row ≡ width) rows r widths cr in
      let wide_q : length q ≡ width = All-contains (λ (row : List Sym). length row ≡ width) rows q widths cq in
      let high_r = row_top_at rows r cr in
      let high_q = row_top_at rows q cq in
      ⊎_elim
      (λ (lt : a < width).
      let one = top_at r a d (omega (arith, lt, wide_r)) in
      let two = top_at q a d (omega (arith, lt, wide_q)) in
      sym (thawed_frozen f n (get_or r a d) (omega (arith, one, high_r, high))) ∙ ap (thawed n) e ∙ thawed_frozen f n (get_or q a d) (omega (arith, two, high_q, high)))
      (λ (ge : width ≤ a). get_or_past r a d (omega (arith, ge, wide_r)) ∙ sym (get_or_past q a d (omega (arith, ge, wide_q))))
      (cases_lt a width)

  frozen_meets : IsClosedPartition fds rows (λ x. x) → Meets fds (map (values_of z) rows)
  frozen_meets closed g x y cg cx cy agree =
      let r = Contains-map_source (values_of z) rows x cx in
      let q = Contains-map_source (values_of z) rows y cy in
      λ a d m.
      let left : (b : ℕ) (s : Sym) → value_of z (get_or r.0 b s) ≡ get_or x b (value_of z s) = λ b s. sym (map_read (value_of z) r.0 b s) ∙ ap (λ (xs : List Value). get_or xs b (value_of z s)) r.2 in
      let right : (b : ℕ) (s : Sym) → value_of z (get_or q.0 b s) ≡ get_or y b (value_of z s) = λ b s. sym (map_read (value_of z) q.0 b s) ∙ ap (λ (xs : List Value). get_or xs b (value_of z s)) q.2 in
      let same = closed g r.0 q.0 cg r.1 q.1 (λ b s k. same_symbol r.0 q.0 b s r.1 q.1 (left b s ∙ agree b (value_of z s) k ∙ sym (right b s))) a (Const d) m in
      sym (left a (Const d)) ∙ ap (value_of z) same ∙ right a (Const d)

-- ---- the universal relation of the chased rows

module _ (db : DatabaseValue) (kept : IsWellKept db) (readings : List Reading) (are : AreReadings db readings) (name : Sym → Sym) (own : (c : Value) → name (Const c) ≡ Const c) (named : (x : Sym) → IsClassName db.schema.fds (padded_rows db readings) x (name x)) where
  abbrev rows : List (List Sym)
  rows = padded_rows db readings

  abbrev chased : List (List Sym)
  chased = map (map name) rows

  all_typed : IsTyped (attribute_kinds db.schema) (named_tab name (tableau db readings))
  all_typed = answering.typed db.schema.fds (tableau db readings) name own named (attribute_kinds db.schema) (typed db kept readings are.each)

  abbrev kind : ℕ → Kind
  kind = all_typed.var_kind

  chased_long : All (λ row. length row ≡ width db.schema) chased
  chased_long =
      All-members (λ (row : List Sym). length row ≡ width db.schema) chased
      (λ row c.
      let w = Contains-map_source (map name) rows row c in
      ap (λ (x : List Sym). length x) (sym w.2) ∙ length-map w.0 name ∙ All-contains (λ (x : List Sym). length x ≡ width db.schema) rows w.0 (rows_long db readings) w.1)

  module _ (n : ℕ) (high : rows_top chased ≤ n) where
    abbrev valuation : ℕ → Value
    valuation = frozen kind n

    pub universe : List (List Value)
    universe = map (values_of valuation) chased

    includes : Includes db universe
    unfolding universe
    includes o x low c =
        let m : Member = record { object = o; values = x } in
        let w = Contains-map_source (member_read db) readings m ((are.members.exact m).1 c) in
        let i : ℕ = w.1.0 in
        let r : Reading = reading_at readings i in
        let is_r : r ≡ w.0 = get_or_default readings i none w.0 w.1.1 ∙ w.1.2 in
        let reads : member_read db r ≡ m = ap (member_read db) is_r ∙ w.2 in
        let is : IsReading db r = are.each i none w.1.1 in
        let on : r.object ≡ o = ap (λ (q : Member). q.object) reads in
        let object : ObjectEntry = object_at db.schema r.object in
        let spread : List Value = map (value_for object (row_read db r)) (range_with_len 0 (width db.schema)) in
        let row : List Sym = padded_row db i r in
        let y : List Value = values_of valuation (map name row) in
        let inside : Contains universe y = Contains-map (values_of valuation) chased (map name row) (Contains-map (map name) rows row (in_rows db readings i w.1.1)) in
        let long_row : length row ≡ width db.schema = row_length db i r in
        let long_y : length y ≡ width db.schema = length-map (map name row) (value_of valuation) ∙ length-map row name ∙ long_row in
        let long_spread : length spread ≡ width db.schema = length-map-range_with_len (value_for object (row_read db r)) 0 (width db.schema) in
        let agree : Agree (attributes_at db.schema r.object) y spread = λ a d has.
        ⊎_elim
        (λ (l : a < width db.schema).
        let cell : get_or row a (Const d) ≡ Const (value_for object (row_read db r) a) = cell_is db i r a (Const d) l ∙ constant_cell db i r a has in
        let named_cell : get_or (map name row) a (Const d) ≡ Const (value_for object (row_read db r) a) = ap (λ (x : Sym). get_or (map name row) a x) (sym (own d)) ∙ map_read name row a (Const d) ∙ ap name cell ∙ own (value_for object (row_read db r) a) in
        map_read (value_of valuation) (map name row) a (Const d) ∙ ap (value_of valuation) named_cell ∙ sym (get_or-map_range (value_for object (row_read db r)) (width db.schema) a d l))
        (λ (g : width db.schema ≤ a). get_or_past y a d (omega (arith, g, long_y)) ∙ sym (get_or_past spread a d (omega (arith, g, long_spread))))
        (cases_lt a (width db.schema)) in
        let same : cut (attributes_at db.schema r.object) y ≡ taken db.schema object (row_read db r) =
        (cut_agrees (attributes_at db.schema r.object) y spread (long_y ∙ sym long_spread)).1 agree ∙ ap (λ s. cut s spread) (attributes_are db kept r.object is.object) in
        let at : cut (attributes_at db.schema o) y ≡ x = ap (λ (k : ℕ). cut (attributes_at db.schema k) y) (sym on) ∙ same ∙ ap (λ (q : Member). q.values) reads in
        subst (Contains (cuts db.schema universe o)) at (Contains-map (cut (attributes_at db.schema o)) universe y inside)

    pub fits : Fits db universe
    unfolding universe
    fits = record {
      kinds = frozen_typed (attribute_kinds db.schema) (named_tab name (tableau db readings)) all_typed n;
      meets = frozen_meets db.schema.fds chased (width db.schema) chased_long kind n high (settled db.schema.fds rows name named (width db.schema) (rows_long db readings) (fds_below db kept));
      includes = includes;
    }

    -- a row at the attributes, of values that are not new, is one of constants
    pub constants : (attributes : List ℕ) → All (λ a. a < width db.schema) attributes → (h : List Value) → row_top (map Const h) ≤ n → (w : List Value) → Contains universe w → values_at attributes w ≡ h → (row : List Sym) × Contains rows row × AreNamed name row attributes h
    unfolding universe
    constants attributes low h old w c gives =
        let s = Contains-map_source (values_of valuation) chased w c in
        let r = Contains-map_source (map name) rows s.0 s.1 in
        let row : List Sym = r.0 in
        let long : length row ≡ width db.schema = All-contains (λ (x : List Sym). length x ≡ width db.schema) rows row (rows_long db readings) r.1 in
        let values : values_of valuation (map name row) ≡ w = ap (values_of valuation) r.2 ∙ s.2 in
        let high_row = row_top_at chased (map name row) (Contains-map (map name) rows row r.1) in
        let read : (a : ℕ) → Contains attributes a → thawed n (get_or w a (Int (pos 0))) ≡ name (get_or row a (Var 0)) = λ a ca.
        let la : a < width db.schema = All-contains (λ (b : ℕ). b < width db.schema) attributes a low ca in
        let long_name = length-map row name in
        let long_values = length-map (map name row) (value_of valuation) in
        let at : get_or w a (Int (pos 0)) ≡ value_of valuation (name (get_or row a (Var 0))) =
        ap (λ (x : List Value). get_or x a (Int (pos 0))) (sym values)
        ∙ get_or_default (values_of valuation (map name row)) a (Int (pos 0)) (value_of valuation (name (Var 0))) (omega (arith, la, long, long_name, long_values))
        ∙ map_read (value_of valuation) (map name row) a (name (Var 0)) ∙ ap (value_of valuation) (map_read name row a (Var 0)) in
        let below : top (name (get_or row a (Var 0))) ≤ row_top (map name row) = subst (λ (x : Sym). top x ≤ row_top (map name row)) (map_read name row a (Var 0)) (top_at (map name row) a (name (Var 0)) (omega (arith, la, long, long_name))) in
        ap (thawed n) at ∙ thawed_frozen kind n (name (get_or row a (Var 0))) (omega (arith, below, high_row, high)) in
        let left : map (thawed n) (values_at attributes w) ≡ map (λ a. name (get_or row a (Var 0))) attributes =
        map-map_equal (λ a. get_or w a (Int (pos 0))) (thawed n) (λ a. thawed n (get_or w a (Int (pos 0)))) (λ a. refl) attributes ∙ map-equal_at (λ a. thawed n (get_or w a (Int (pos 0)))) (λ a. name (get_or row a (Var 0))) attributes read in
        (row, r.1, sym left ∙ ap (map (thawed n)) gives ∙ all_thawed kind n h old)

  pub some_fits : (universe : List (List Value)) × Fits db universe
  some_fits = let n : ℕ = rows_top chased in (universe n (omega arith), fits n (omega arith))

  -- a list in the window is one of constants
  pub in_window : (attributes : List ℕ) → All (λ a. a < width db.schema) attributes → (h : List Value) → InWindow db attributes h → (row : List Sym) × Contains rows row × AreNamed name row attributes h
  in_window attributes low h window =
      let n : ℕ = rows_top chased + row_top (map Const h) in
      let high : rows_top chased ≤ n = omega arith in
      let w = window (universe n high) (fits n high) in
      constants n high attributes low h (omega arith) w.0 w.1 w.2
