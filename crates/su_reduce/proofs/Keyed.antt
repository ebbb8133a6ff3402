-- Keys of rows, of values and of codes, and that rows with one key are partners.
use Rattle.std.proofs.Common.{◌≡◌, ◌↔◌, ◌<◌, ◌≤◌, ℕ, Bool, IsTrue, List, [], map, length, get_or, pos, Contains, ⊎_elim, sym, ap, subst, ◌∙◌, arith}
use Rattle.std.proofs.lemmas.Bool.{cases_lt}
use Rattle.std.proofs.lemmas.List.{get_or-map, get_or_default, length-map, same_lists}
use Rattle.su_base.specs.declared.values.Value.{Value}
use Rattle.su_base.specs.declared.values.Value.TheVariants.{Int}
use Rattle.su_tableau.specs.declared.symbols.Sym.{Sym}
use Rattle.su_tableau.specs.declared.symbols.Sym.TheVariants.{Var}
use Rattle.su_tableau.specs.Valuations.{nth, value_of, values_of}
use Rattle.su_reduce.specs.Codes.{AreApart, decode}
use Rattle.su_reduce.specs.Sheets.{AreBelow, IsMarkedKey, Rows, pick}
use Rattle.su_reduce.specs.inside.Coded.{AreRowsOf, IsCodeOf}
use Rattle.su_reduce.specs.Shapes.{Fits}
use Rattle.su_reduce.specs.inside.Marks.{Meet, HasPartner, mark, row_at}
use Rattle.su_reduce.specs.inside.Keys.{AreShared, IsPair}
use Rattle.su_reduce.proofs.Buckets.{pick_at}
use Rattle.su_reduce.proofs.Places.{read_value}
use Rattle.su_reduce.proofs.Exact.{patched, patched_own, patched_others}

-- the values of a row at these places
abbrev pub key : List ℕ → List Value → List Value
key places row = map (λ p. nth row p) places

-- the key of a marked one of the first n rows
pub record IsKeyOf (rows : List (List Value)) (marks : List Bool) (places : List ℕ) (n : ℕ) (k : List Value) : Type 0 where
  pub place : ℕ
  pub below : place < n
  pub is_marked : IsTrue (mark marks place)
  pub is : key places (row_at rows place) ≡ k

-- ---- codes

module _ (values : List Value) where
  -- the code of a value
  one_code : AreApart values → (x y : ℕ) → x < length values → y < length values → decode values x ≡ decode values y → x ≡ y
  one_code apart x y x_low y_low same =
      ⊎_elim
      (λ (l : x < y). absurd (apart x y l y_low same))
      (λ (h : y ≤ x). ⊎_elim (λ (l : y < x). absurd (apart y x l x_low (sym same))) (λ (m : x ≤ y). omega (arith, h, m)) (cases_lt y x))
      (cases_lt x y)

  -- the codes of a list of values
  one_list : AreApart values → (xs ys : List ℕ) → AreBelow xs (length values) → AreBelow ys (length values) → map (decode values) xs ≡ map (decode values) ys → xs ≡ ys
  one_list apart xs ys xs_low ys_low same =
      let long : length xs ≡ length ys = sym (length-map xs (decode values)) ∙ ap (λ (zs : List Value). length zs) same ∙ length-map ys (decode values) in
      same_lists xs ys long (λ i d l.
      let m : i < length ys = omega (arith, l, long) in
      one_code apart (get_or xs i d) (get_or ys i d) (xs_low i d l) (ys_low i d m)
      (sym (get_or-map (decode values) xs i d (Int (pos 0)) l) ∙ ap (λ (zs : List Value). get_or zs i (Int (pos 0))) same ∙ get_or-map (decode values) ys i d (Int (pos 0)) m))

  module _ (places : List ℕ) (row : List Value) (codes : List ℕ) (are : IsCodeOf values row codes) (low : (i : ℕ) → i < length places → get_or places i 0 < length row) where
    long : length codes ≡ length row
    long = sym (length-map codes (decode values)) ∙ ap (λ (xs : List Value). length xs) are.is

    at : (i : ℕ) → i < length places → get_or places i 0 < length codes
    at i l = let here = low i l in let same = long in omega (arith, here, same)

    -- codes at places stand for the values there
    pub key_is : map (decode values) (pick places codes) ≡ key places row
    key_is =
        let picked = length-map places (λ p. get_or codes p 0) in
        let keyed = length-map places (nth row) in
        same_lists (map (decode values) (pick places codes)) (key places row) (length-map (pick places codes) (decode values) ∙ picked ∙ sym keyed) (λ i d l.
        let whole = length-map (pick places codes) (decode values) in
        let in_pick : i < length (pick places codes) = omega (arith, l, whole) in
        let in_places : i < length places = omega (arith, in_pick, picked) in
        let p : ℕ = get_or places i 0 in
        get_or-map (decode values) (pick places codes) i 0 d in_pick ∙ ap (decode values) (pick_at places codes i 0 in_places)
        ∙ sym (get_or-map (decode values) codes p 0 (Int (pos 0)) (at i in_places)) ∙ ap (λ (xs : List Value). nth xs p) are.is
        ∙ sym (get_or-map (nth row) places i 0 d in_places))

    pub key_low : AreBelow (pick places codes) (length values)
    key_low i d l =
        let picked = length-map places (λ p. get_or codes p 0) in
        let in_places : i < length places = omega (arith, l, picked) in
        let here : get_or codes (get_or places i 0) 0 < length values = are.below (get_or places i 0) 0 (at i in_places) in
        let same = pick_at places codes i d in_places in
        omega (arith, here, same)

-- ---- partners

pub fits_length : (cells : List Sym) (row : List Value) → Fits cells row → length row ≡ length cells
fits_length cells row fit = ap (λ (xs : List Value). length xs) (sym fit.1) ∙ length-map cells (value_of fit.0)

module _ (left right : List Sym) (ls rs : List ℕ) (shared : AreShared left right (length left) ls rs) where
  -- the values of a key
  key_at : (places : List ℕ) (row : List Value) (i : ℕ) (d : Value) → i < length places → get_or (key places row) i d ≡ nth row (get_or places i 0)
  key_at places row i d l = get_or-map (nth row) places i 0 d l

  -- what a valuation gives at the i-th place on either side
  left_value : (v : ℕ → Value) (row : List Value) (i k : ℕ) → IsPair left right ls rs i k → values_of v left ≡ row → nth row (get_or ls i 0) ≡ v k
  left_value v row i k pair gives = read_value v left row (get_or ls i 0) k gives (shared.left_below i pair.below) pair.left_is

  right_value : (v : ℕ → Value) (row : List Value) (i k : ℕ) → IsPair left right ls rs i k → values_of v right ≡ row → nth row (get_or rs i 0) ≡ v k
  right_value v row i k pair gives = read_value v right row (get_or rs i 0) k gives (shared.right_below i pair.below) pair.right_is

  keys_long : (row other : List Value) → length (key rs other) ≡ length (key ls row)
  keys_long row other = length-map rs (nth other) ∙ sym shared.same_length ∙ sym (length-map ls (nth row))

  pub one_key : (row other : List Value) → Meet left right row other → key rs other ≡ key ls row
  one_key row other meet = same_lists (key rs other) (key ls row) (keys_long row other) (λ i d l.
      let right_long = length-map rs (nth other) in
      let same = shared.same_length in
      let pair = shared.only i (omega (arith, l, right_long, same)) in
      key_at rs other i d (omega (arith, l, right_long)) ∙ right_value meet.valuation other i pair.0 pair.1 meet.other_is
      ∙ sym (left_value meet.valuation row i pair.0 pair.1 meet.row_is) ∙ sym (key_at ls row i d (omega (arith, l, right_long, same))))

  -- valuations that give two rows with one key agree where both have a variable
  agree : (u w : ℕ → Value) (row other : List Value) → values_of u left ≡ row → values_of w right ≡ other → key rs other ≡ key ls row → (k : ℕ) → Contains left (Var k) → Contains right (Var k) → u k ≡ w k
  agree u w row other u_is w_is same k in_left in_right =
      let at : (i : ℕ) × IsPair left right ls rs i k = shared.all in_left.0 k in_left.1 (get_or_default left in_left.0 (Var 0) (Var k) in_left.1 ∙ in_left.2) in_right in
      let l = at.1.below in
      let long = shared.same_length in
      sym (left_value u row at.0 k at.1 u_is) ∙ sym (key_at ls row at.0 (Int (pos 0)) l) ∙ ap (λ (xs : List Value). get_or xs at.0 (Int (pos 0))) (sym same)
      ∙ key_at rs other at.0 (Int (pos 0)) (omega (arith, l, long)) ∙ right_value w other at.0 k at.1 w_is

  pub meets : (row other : List Value) → Fits left row → Fits right other → key rs other ≡ key ls row → Meet left right row other
  meets row other u w same = record {
    valuation = patched left u.0 w.0;
    row_is = patched_own left u.0 w.0 ∙ u.1;
    other_is = patched_others left right u.0 w.0 (agree u.0 w.0 row other u.1 w.1 same) ∙ w.1;
  }

  -- a row has a partner exactly where its key is one of the others'
  pub partner_by_key : (rows : List (List Value)) (marks : List Bool) (row : List Value) → ((p : ℕ) → p < length rows → IsTrue (mark marks p) → Fits right (row_at rows p)) → Fits left row → IsKeyOf rows marks rs (length rows) (key ls row) ↔ HasPartner left right rows marks row
  partner_by_key rows marks row fit mine = (
    λ one. record {
      place = one.place;
      below = one.below;
      is_marked = one.is_marked;
      meets = meets row (row_at rows one.place) mine (fit one.place one.below one.is_marked) one.is;
    },
    λ partner. record {
      place = partner.place;
      below = partner.below;
      is_marked = partner.is_marked;
      is = one_key row (row_at rows partner.place) partner.meets;
    },
  )

  -- of two rows and their codes: the codes have one key exactly where the values have
  module _ (values : List Value) (apart : AreApart values) (row other : List Value) (codes other_codes : List ℕ) (are : IsCodeOf values row codes) (others_are : IsCodeOf values other other_codes) (fit : Fits left row) (other_fits : Fits right other) where
    left_low : (i : ℕ) → i < length ls → get_or ls i 0 < length row
    left_low i l = let here = shared.left_below i l in let same = fits_length left row fit in omega (arith, here, same)

    right_low : (i : ℕ) → i < length rs → get_or rs i 0 < length other
    right_low i l = let long = shared.same_length in let here = shared.right_below i (omega (arith, l, long)) in let same = fits_length right other other_fits in omega (arith, here, same)

    of_values : key rs other ≡ key ls row → pick rs other_codes ≡ pick ls codes
    of_values same = one_list values apart (pick rs other_codes) (pick ls codes) (key_low values rs other other_codes others_are right_low) (key_low values ls row codes are left_low)
        (key_is values rs other other_codes others_are right_low ∙ same ∙ sym (key_is values ls row codes are left_low))

    of_codes : pick rs other_codes ≡ pick ls codes → key rs other ≡ key ls row
    of_codes same = sym (key_is values rs other other_codes others_are right_low) ∙ ap (map (decode values)) same ∙ key_is values ls row codes are left_low

  -- the marks of those whose key is among the others' are those that have a partner
  module _ (values : List Value) (apart : AreApart values) (rows others : List (List Value)) (marks other_marks : List Bool) (sheet other_sheet : Rows) (coded : AreRowsOf values rows (length left) (length rows) sheet) (others_coded : AreRowsOf values others (length right) (length others) other_sheet)
      (fit : (p : ℕ) → p < length rows → IsTrue (mark marks p) → Fits left (row_at rows p)) (fit_others : (p : ℕ) → p < length others → IsTrue (mark other_marks p) → Fits right (row_at others p)) where
    code : (p : ℕ) → p < length rows → IsTrue (mark marks p) → IsCodeOf values (row_at rows p) (get_or sheet.rows p [])
    code p l m = coded.each p l (fits_length left (row_at rows p) (fit p l m))

    other_code : (p : ℕ) → p < length others → IsTrue (mark other_marks p) → IsCodeOf values (row_at others p) (get_or other_sheet.rows p [])
    other_code p l m = others_coded.each p l (fits_length right (row_at others p) (fit_others p l m))

    to_values : (p : ℕ) → p < length rows → IsTrue (mark marks p) → IsMarkedKey other_sheet.rows other_marks rs (length other_sheet.rows) (pick ls (get_or sheet.rows p [])) → IsKeyOf others other_marks rs (length others) (key ls (row_at rows p))
    to_values p l m one =
        let long = others_coded.same_length in
        let at = one.below in
        let low : one.place < length others = omega (arith, at, long) in
        record {
          place = one.place;
          below = low;
          is_marked = one.is_marked;
          is = of_codes values apart (row_at rows p) (row_at others one.place) (get_or sheet.rows p []) (get_or other_sheet.rows one.place []) (code p l m) (other_code one.place low one.is_marked) (fit p l m) (fit_others one.place low one.is_marked) one.is;
        }

    to_codes : (p : ℕ) → p < length rows → IsTrue (mark marks p) → IsKeyOf others other_marks rs (length others) (key ls (row_at rows p)) → IsMarkedKey other_sheet.rows other_marks rs (length other_sheet.rows) (pick ls (get_or sheet.rows p []))
    to_codes p l m one =
        let long = others_coded.same_length in
        let low = one.below in
        record {
          place = one.place;
          below = omega (arith, low, long);
          is_marked = one.is_marked;
          is = of_values values apart (row_at rows p) (row_at others one.place) (get_or sheet.rows p []) (get_or other_sheet.rows one.place []) (code p l m) (other_code one.place one.below one.is_marked) (fit p l m) (fit_others one.place one.below one.is_marked) one.is;
        }

    pub exact_by_codes : (kept : List Bool) → ((p : ℕ) → p < length rows → IsTrue (mark kept p) ↔ (IsTrue (mark marks p) × IsMarkedKey other_sheet.rows other_marks rs (length other_sheet.rows) (pick ls (get_or sheet.rows p []))))
        → (p : ℕ) → p < length rows → IsTrue (mark kept p) ↔ (IsTrue (mark marks p) × HasPartner left right others other_marks (row_at rows p))
    exact_by_codes kept kept_are p l = (
      λ m. let both = (kept_are p l).0 m in (both.0, (partner_by_key others other_marks (row_at rows p) fit_others (fit p l both.0)).0 (to_values p l both.0 both.1)),
      λ both. (kept_are p l).1 (both.0, to_codes p l both.0 ((partner_by_key others other_marks (row_at rows p) fit_others (fit p l both.0)).1 both.1)),
    )

-- places below a number, as a list
pub places_low : (places : List ℕ) (n w : ℕ) → w ≡ n → ((i : ℕ) → i < length places → get_or places i 0 < n) → AreBelow places w
places_low places n w is low i d l = let here = low i l in let same = get_or_default places i d 0 l in omega (arith, is, here, same)

-- shared places of lists of cells that are read
pub shared_of : (left right read other_read : List Sym) (ls rs : List ℕ) → read ≡ left → other_read ≡ right → AreShared read other_read (length read) ls rs → AreShared left right (length left) ls rs
shared_of left right read other_read ls rs is other_is shared =
    subst (λ (cells : List Sym). AreShared cells right (length cells) ls rs) is (subst (λ (cells : List Sym). AreShared read cells (length read) ls rs) other_is shared)
