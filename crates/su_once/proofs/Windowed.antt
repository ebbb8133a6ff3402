-- Databases that are alike have one window on some attributes, or none for one cause.
use Rattle.std.proofs.Common.{◌≡◌, ◌↔◌, ◌⊎◌, ◌<◌, ◌≤◌, ◌+◌, ◌*◌, ◌/◌, ◌%◌, ℕ, Bool, true, false, cond, List, map, length, get_or, slice_get, Contains, Option, Some, None, inl, inr, refl, ap, sym, ◌∙◌, subst, arith}
use Rattle.std.specs.Prelude.{IsTrue}
use Rattle.std.specs.List.{range_with_len}
use Rattle.std.specs.FinSet.{contains, empty}
use Rattle.std.proofs.lemmas.Bool.{cases_lt}
use Rattle.std.proofs.lemmas.Nat.{div-mul-add, mod-mul-add}
use Rattle.std.proofs.lemmas.List.{get_or_default, get_or-map, get_or_past, length-map, get_or-map as map_at}
use Rattle.std.proofs.lemmas.List.Elements.{Contains-get_or}
use Rattle.std.proofs.lemmas.List.FromFn.{get_or-map-range_with_len, length-map-range_with_len}
use Rattle.su_base.specs.declared.values.Value.{Value}
use Rattle.su_fd.specs.declared.dependencies.Fd.{Fd}
use Rattle.su_rel.specs.Stored.{Stored}
use Rattle.su_tableau.specs.declared.symbols.Sym.{Sym}
use Rattle.su_tableau.specs.declared.symbols.Sym.TheVariants.{Const, Var}
use Rattle.su_chase.specs.Chase.{SameLabels, IsClosedPartition, InOneClass, IsClash}
use Rattle.su_base.proofs.Items.{Contains-map, Contains-map_source, Contains-range, Contains-range_below, map-map_equal, map-equal_at}
use Rattle.su_schema.specs.SchemaValue.{SchemaValue, ObjectEntry}
use Rattle.su_schema.specs.Entries.{attributes_of}
use Rattle.su_index.specs.Tables.{rows_at}
use Rattle.su_state.specs.DatabaseValue.{DatabaseValue, rows_of}
use Rattle.su_window.specs.declared.faults.WindowFault.{WindowFault}
use Rattle.su_window.specs.declared.faults.WindowFault.TheVariants.{Limit, Inconsistent, NoMemory}
use Rattle.su_window.specs.declared.readings.Reading.{Reading}
use Rattle.su_schema.specs.Cuts.{width, attributes_at}
use Rattle.su_state.specs.Views.{value_for, taken, view_through, view_of}
use Rattle.su_rel.specs.MoreThan.{AreMoreThan}
use Rattle.su_window.specs.Members.{Member, IsMember, AreMembers, HasFew}
use Rattle.su_window.specs.Window.{Fits, InWindow}
use Rattle.su_window.specs.Padded.{object_at, row_read, member_read, AreReadings, padded, padded_row, padded_rows}
use Rattle.su_window.specs.Refusals.{Clashes, IsWindowRefusal}
use Rattle.su_schema.proofs.Cuts.{cut_agrees}
use Rattle.su_schema.proofs.Entries.{blank_object}
use Rattle.su_once.specs.Windows.{IsWindow, OneWindow, OneWindowRefusal, RefusedOrFitting}
use Rattle.su_once.proofs.Changed.{same_schema}
use Rattle.su_once.proofs.OneChase.{one_clash}
use Rattle.su_once.proofs.Counted.{no_more}
use Rattle.su_once.proofs.Rows.{one_strict_list}

-- ---- views, over two databases of one schema, of which the one has the other's rows

module _ (schema : SchemaValue) (left right : List Stored) (rows : (r : ℕ) (row : List Value) → Contains (rows_at left r) row → Contains (rows_at right r) row) where
  abbrev a : DatabaseValue
  a = record { schema = schema; tables = left }

  abbrev b : DatabaseValue
  b = record { schema = schema; tables = right }

  through_moves : (o : Option ObjectEntry) (x : List Value) → Contains (view_through a o) x → Contains (view_through b o) x
  through_moves None x there = there
  through_moves (Some object) x there =
      let (row, stored, is) = Contains-map_source (taken schema object) (rows_of a object.relation) x there in
      subst (Contains (map (taken schema object) (rows_of b object.relation))) is (Contains-map (taken schema object) (rows_of b object.relation) row (rows object.relation row stored))

  view_moves : (o : ℕ) (x : List Value) → Contains (view_of a o) x → Contains (view_of b o) x
  view_moves o x there = through_moves (slice_get schema.objects o) x there

  member_moves : (m : Member) → IsMember a m → IsMember b m
  member_moves m is = view_moves m.object m.values is

  fits_back : (universe : List (List Value)) → Fits b universe → Fits a universe
  fits_back universe h = record { kinds = h.kinds; meets = h.meets; includes = λ o x low there. h.includes o x low (view_moves o x there) }

  in_window_moves : (attributes : List ℕ) (h : List Value) → InWindow a attributes h → InWindow b attributes h
  in_window_moves attributes h inside universe fits = inside universe (fits_back universe fits)

  many_or_few : AreMoreThan 20000 (IsMember a) → (members : List Member) → AreMembers b members → length members ≤ 20000 → ⊥
  many_or_few many members are few =
      let enough = no_more 20001 many.member members (λ i low. (are.exact (many.member i)).1 (member_moves (many.member i) (many.each i (omega (arith, low))))) (λ i j less low. many.differ i j less (omega (arith, low))) in
      absurd (omega (arith, enough, few))

-- ---- the padded rows of two databases: constants that meet in the ones meet in the others

abbrev no_reading : Reading
no_reading = record { object = 0; position = 0 }

-- the row of another database that reads the same member
record IsTwin (a b : DatabaseValue) (x : Reading) (others : List Reading) : Type 0 where
  place : ℕ
  low : place < length others
  is : member_read a x ≡ member_read b (get_or others place no_reading)

same_sides : (v w : Bool) → v ≡ w → (x y : Value) → (v ≡ true → x ≡ y) → (move : Sym → Sym) → ((c : Value) → move (Const c) ≡ Const c) → (p q : Sym) → move p ≡ q → move (cond v (Const x) p) ≡ cond w (Const y) q
same_sides true true same x y h move keeps p q k = keeps x ∙ ap Const (h refl)
same_sides true false same x y h move keeps p q k = absurd (cc)
same_sides false true same x y h move keeps p q k = absurd (cc)
same_sides false false same x y h move keeps p q k = k

module _ (schema : SchemaValue) (left right : List Stored) (rows : (r : ℕ) (row : List Value) → Contains (rows_at left r) row → Contains (rows_at right r) row) (mine others : List Reading) where
  abbrev from : DatabaseValue
  from = record { schema = schema; tables = left }

  abbrev to : DatabaseValue
  to = record { schema = schema; tables = right }

  abbrev n : ℕ
  n = width schema

  module _ (are : AreReadings from mine) (these : AreReadings to others) where
    twin : (i : ℕ) → i < length mine → IsTwin from to (get_or mine i no_reading) others
    twin i low =
        let x = get_or mine i no_reading in
        let m = member_read from x in
        let there : IsMember from m = (are.members.exact m).0 (Contains-map (member_read from) mine x (Contains-get_or mine i no_reading low)) in
        let (y, (j, within, at), is) = Contains-map_source (member_read to) others m ((these.members.exact m).1 (member_moves schema left right rows m there)) in
        record { place = j; low = within; is = sym is ∙ ap (member_read to) (sym (get_or_default others j no_reading y within ∙ at)) }

    abbrev place_by : (i : ℕ) → (i < length mine) ⊎ (length mine ≤ i) → ℕ
    place_by i (inl low) = (twin i low).place
    place_by i (inr past) = 0

    -- the place of the twin
    abbrev other : ℕ → ℕ
    other i = place_by i (cases_lt i (length mine))

    twin_by : (i : ℕ) → i < length mine → (s : (i < length mine) ⊎ (length mine ≤ i)) → (place_by i s < length others) × (member_read from (get_or mine i no_reading) ≡ member_read to (get_or others (place_by i s) no_reading))
    twin_by i low (inl less) = ((twin i less).low, (twin i less).is)
    twin_by i low (inr past) = absurd (omega (arith, low, past))

    -- a variable goes to that of the twin at the same attribute
    abbrev move : Sym → Sym
    move (Const c) = Const c
    move (Var k) = Var (other (k / n) * n + k % n)

    moved : (i c : ℕ) → c < n → move (Var (i * n + c)) ≡ Var (other i * n + c)
    moved i c low = let row = div-mul-add i n c low in let column = mod-mul-add i n c low in λ t. Var (other (row t) * n + column t)

    module _ (i : ℕ) (low : i < length mine) where
      abbrev x : Reading
      x = get_or mine i no_reading

      abbrev y : Reading
      y = get_or others (other i) no_reading

      is : member_read from x ≡ member_read to y
      is = (twin_by i low (cases_lt i (length mine))).1

      object : x.object ≡ y.object
      object = ap (λ (m : Member). m.object) is

      own : attributes_at schema x.object ≡ attributes_of (object_at schema x.object)
      own = get_or-map attributes_of schema.objects x.object blank_object empty (are.each i no_reading low).object

      same_value : (c : ℕ) → c < n → IsTrue (contains (attributes_at schema x.object) c) → value_for (object_at schema x.object) (row_read from x) c ≡ value_for (object_at schema y.object) (row_read to y) c
      same_value c within inside =
          let entry = object_at schema x.object in
          let f = value_for entry (row_read from x) in
          let g = value_for entry (row_read to y) in
          let values : taken schema entry (row_read from x) ≡ taken schema entry (row_read to y) = ap (λ (m : Member). m.values) is ∙ ap (λ o. taken schema (object_at schema o) (row_read to y)) (sym object) in
          let agree = (cut_agrees (attributes_of entry) (map f (range_with_len 0 n)) (map g (range_with_len 0 n)) (length-map-range_with_len f 0 n ∙ sym (length-map-range_with_len g 0 n))).0 values in
          let here = agree c (f c) (subst (λ s. IsTrue (contains s c)) own inside) in
          let place : 0 + c ≡ c = omega arith in
          sym (get_or-map-range_with_len f 0 n c c (f c) within place) ∙ here ∙ get_or-map-range_with_len g 0 n c c (f c) within place ∙ ap (λ o. value_for (object_at schema o) (row_read to y) c) object

      same_cell : (c : ℕ) → c < n → move (padded from i x c) ≡ padded to (other i) y c
      same_cell c within =
          same_sides (contains (attributes_at schema x.object) c) (contains (attributes_at schema y.object) c) (ap (λ o. contains (attributes_at schema o) c) object)
          (value_for (object_at schema x.object) (row_read from x) c) (value_for (object_at schema y.object) (row_read to y) c) (same_value c within)
          move (λ v. refl) (Var (i * n + c)) (Var (other i * n + c)) (moved i c within)

      row_moves : map move (padded_row from i x) ≡ padded_row to (other i) y
      row_moves =
          map-map_equal (padded from i x) move (λ c. move (padded from i x c)) (λ c. refl) (range_with_len 0 n)
          ∙ map-equal_at (λ c. move (padded from i x c)) (padded to (other i) y) (range_with_len 0 n) (λ c there. same_cell c (Contains-range_below n c there))

    row_of : (r : List Sym) → Contains (padded_rows from mine) r → Contains (padded_rows to others) (map move r) × (length r ≡ n)
    row_of r there =
        let (i, among, is) = Contains-map_source (λ k. padded_row from k (get_or mine k no_reading)) (range_with_len 0 (length mine)) r there in
        let low : i < length mine = Contains-range_below (length mine) i among in
        let within = (twin_by i low (cases_lt i (length mine))).0 in
        let stands = Contains-map (λ k. padded_row to k (get_or others k no_reading)) (range_with_len 0 (length others)) (other i) (Contains-range (length others) (other i) within) in (
          subst (Contains (padded_rows to others)) (sym (row_moves i low) ∙ ap (map move) is) stands,
          ap length (sym is) ∙ length-map-range_with_len (padded from i (get_or mine i no_reading)) 0 n,
        )

    -- a closed partition of the others is one of these
    module _ (fds : List Fd) (label : Sym → Sym) (closed : IsClosedPartition fds (padded_rows to others) label) where
      closed_moves : IsClosedPartition fds (padded_rows from mine) (λ s. label (move s))
      closed_moves f r q cf cr cq same =
          let (r_there, r_wide) = row_of r cr in
          let (q_there, q_wide) = row_of q cq in
          let left : SameLabels label f.left (map move r) (map move q) = λ c d inside. (elim (cases_lt c n) [
            | inl low ↦ ap label (map_at move r c d d (omega (arith, low, r_wide))) ∙ same c d inside ∙ sym (ap label (map_at move q c d d (omega (arith, low, q_wide))))
            | inr past ↦ ap label (get_or_past (map move r) c d (let l = length-map r move in omega (arith, past, r_wide, l)) ∙ sym (get_or_past (map move q) c d (let l = length-map q move in omega (arith, past, q_wide, l))))
          ]) in
          λ c d inside. (elim (cases_lt c n) [
            | inl low ↦ sym (ap label (map_at move r c d d (omega (arith, low, r_wide)))) ∙ closed f (map move r) (map move q) cf r_there q_there left c d inside ∙ ap label (map_at move q c d d (omega (arith, low, q_wide)))
            | inr past ↦ ap (λ s. label (move s)) (get_or_past r c d (omega (arith, past, r_wide)) ∙ sym (get_or_past q c d (omega (arith, past, q_wide))))
          ])

    together : (fds : List Fd) (v w : Value) → InOneClass fds (padded_rows from mine) (Const v) (Const w) → InOneClass fds (padded_rows to others) (Const v) (Const w)
    together fds v w h label closed = h (λ s. label (move s)) (closed_moves fds label closed)

-- rows of two databases that are alike clash in the same way
module _ (schema : SchemaValue) (left right : List Stored) (rows : (r : ℕ) (row : List Value) → Contains (rows_at left r) row ↔ Contains (rows_at right r) row) where
  clash_moves : (mine others : List Reading) → AreReadings (record { schema = schema; tables = left }) mine → AreReadings (record { schema = schema; tables = right }) others → (less greater : Value)
      → IsClash schema.fds (padded_rows (record { schema = schema; tables = left }) mine) less greater → IsClash schema.fds (padded_rows (record { schema = schema; tables = right }) others) less greater
  clash_moves mine others are these less greater h =
      let forth = together schema left right (λ r row. (rows r row).0) mine others are these schema.fds in
      let back = together schema right left (λ r row. (rows r row).1) others mine these are schema.fds in
      record {
        differ = h.differ;
        together = forth less greater h.together;
        least = λ v w apart meet. h.least v w apart (back v w meet);
        other = λ w apart meet. h.other w apart (back less w meet);
      }

-- ---- one window, or one cause

module _ (a : DatabaseValue) (tables : List Stored) (rows : (r : ℕ) (row : List Value) → Contains (rows_of a r) row ↔ Contains (rows_at tables r) row) where
  abbrev beside : DatabaseValue
  beside = record { schema = a.schema; tables = tables }

  forth : (r : ℕ) (row : List Value) → Contains (rows_at a.tables r) row → Contains (rows_at tables r) row
  forth r row = (rows r row).0

  back : (r : ℕ) (row : List Value) → Contains (rows_at tables r) row → Contains (rows_at a.tables r) row
  back r row = (rows r row).1

  same_rows : (attributes : List ℕ) (xs ys : List (List Value)) → IsWindow a attributes xs → IsWindow beside attributes ys → xs ≡ ys
  same_rows attributes xs ys h k =
      one_strict_list xs ys h.ascending k.ascending
      (λ z there. (k.exact z).1 (in_window_moves a.schema a.tables tables forth attributes z ((h.exact z).0 there)))
      (λ z there. (h.exact z).1 (in_window_moves a.schema tables a.tables back attributes z ((k.exact z).0 there)))

  too_many_here : AreMoreThan 20000 (IsMember a) → (less greater : Value) → Clashes beside less greater → ⊥
  too_many_here many less greater clash = many_or_few a.schema a.tables tables forth many _ clash.are.members (let few = clash.few in let l = length-map clash.readings (member_read beside) in omega (arith, few, l))

  too_many_there : AreMoreThan 20000 (IsMember beside) → (less greater : Value) → Clashes a less greater → ⊥
  too_many_there many less greater clash = many_or_few a.schema tables a.tables back many _ clash.are.members (let few = clash.few in let l = length-map clash.readings (member_read a) in omega (arith, few, l))

  one_cause : (why other : WindowFault) → IsWindowRefusal a why → IsWindowRefusal beside other → why ≡ other
  one_cause Limit Limit h k = refl
  one_cause Limit (Inconsistent v w) h k = absurd (too_many_here h v w k.0)
  one_cause (Inconsistent v w) Limit h k = absurd (too_many_there k v w h.0)
  one_cause (Inconsistent v w) (Inconsistent x y) h k =
      let moved' = clash_moves a.schema a.tables tables rows h.0.readings k.0.readings h.0.are k.0.are v w h.0.clash in
      let (less, greater) = one_clash a.schema.fds (padded_rows beside k.0.readings) v w x y moved' k.0.clash in
      λ i. Inconsistent (less i) (greater i)
  one_cause NoMemory other h k = absurd h
  one_cause Limit NoMemory h k = absurd k
  one_cause (Inconsistent v w) NoMemory h k = absurd k

  refused_or_fits : (why : WindowFault) → IsWindowRefusal a why → HasFew beside → (universe : List (List Value)) → Fits beside universe → ⊥
  refused_or_fits Limit h (members, are, few) universe fits = many_or_few a.schema a.tables tables forth h members are few
  refused_or_fits (Inconsistent v w) h few universe fits = h.1 universe (fits_back a.schema a.tables tables forth universe fits)
  refused_or_fits NoMemory h few universe fits = h

pub one_window : OneWindow
one_window a b attributes xs ys alike h k = same_rows a b.tables alike.rows attributes xs ys h (subst (λ v. IsWindow v attributes ys) (same_schema a b alike.schema) k)

pub one_window_refusal : OneWindowRefusal
one_window_refusal a b why other alike h k = one_cause a b.tables alike.rows why other h (subst (λ v. IsWindowRefusal v other) (same_schema a b alike.schema) k)

pub refused_or_fitting : RefusedOrFitting
refused_or_fitting a b why universe alike h few fits =
    let same = same_schema a b alike.schema in
    refused_or_fits a b.tables alike.rows why h (subst HasFew same few) universe (subst (λ v. Fits v universe) same fits)
