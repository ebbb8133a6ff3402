-- Over each cell stands the name of its attribute.
-- The idea: a cell of a row is one of the cells of its term, so its attribute has a column there; and the term's line, or the first line of all, has a name for each column.
use Rattle.std.proofs.Common.{◌≡◌, ◌≢◌, ◌≤◌, ◌<◌, ◌⊎◌, ⊎_elim, ℕ, zero, suc, ◌+◌, Bool, true, false, cond, List, [], ◌∷◌, ◌++◌, Some, None, drop, slice_get, refl, sym, ap, ◌∙◌, subst, inl, inr, arith}
use Rattle.std.specs.Prelude.{◌-◌, ◌==◌, ◌||◌, ◌&&◌, Contains}
use Rattle.std.specs.List.{list_any}
use Rattle.std.specs.Str.{bytes_eq}
use Rattle.std.proofs.lemmas.Bool.{or_cases, and_parts}
use Rattle.std.proofs.lemmas.Slice.Eq.{bytes_eq-Decides}
use Rattle.std.proofs.lemmas.List.Elements.{Contains-append_left, Contains-append_right}
use Rattle.su_base.proofs.Items.{Contains-nil, Contains-head, Contains-later, Contains-cases, Contains-map}
use Rattle.su_explained.specs.declared.reading.Line.{Line}
use Rattle.su_draw.specs.declared.cells.Cell.{Cell}
use Rattle.su_draw.specs.declared.tables.Column.{Column}
use Rattle.su_draw.specs.declared.shapes.Help.{Help}
use Rattle.su_draw.specs.Things.{name_of}
use Rattle.su_draw.specs.Terms.{is_term, is_row, or_else, word_in, terms_from, RowsStandBehind}
use Rattle.su_draw.specs.Widths.{plus}
use Rattle.su_draw.specs.inside.Lay.{height_in, cell_of, row_cells, cells_from, name_added, names_with, column_of, table_of, heading_over, headings_over, headings_from, row_from}
use Rattle.su_explained.specs.Checks.{is_decimal}
use Rattle.su_draw.proofs.Sums.{slice_get-drop}
use Rattle.su_draw.proofs.Shared.{row_no_term, behind_six, cells_of_row}

-- ---- the attribute of a cell is among those of its term

is_named : (names : List (List ℕ)) (name : List ℕ) → list_any (λ n. bytes_eq n name) names ≡ true → Contains names name
is_named [] name e = absurd (let f : false ≡ true = e in cc)
is_named (m ∷ ms) name e =
    ⊎_elim (λ (here : bytes_eq m name ≡ true). subst (Contains (m ∷ ms)) ((bytes_eq-Decides m name).0 here) (Contains-head m ms))
    (λ (there : list_any (λ n. bytes_eq n name) ms ≡ true). Contains-later m ms name (is_named ms name there)) (or_cases (bytes_eq m name) (list_any (λ n. bytes_eq n name) ms) e)

named_by : (b : Bool) (names : List (List ℕ)) (name : List ℕ) → list_any (λ n. bytes_eq n name) names ≡ b → Contains (cond b names (names ++ name ∷ [])) name
named_by true names name e = is_named names name e
named_by false names name e = Contains-append_right names (name ∷ []) name (Contains-head name [])

stays_by : (b : Bool) (names : List (List ℕ)) (name n : List ℕ) → Contains names n → Contains (cond b names (names ++ name ∷ [])) n
stays_by true names name n h = h
stays_by false names name n h = Contains-append_left names (name ∷ []) n h

names_stay : (names : List (List ℕ)) (cs : List Cell) (n : List ℕ) → Contains names n → Contains (names_with names cs) n
names_stay names [] n h = h
names_stay names (c ∷ cs) n h = names_stay (name_added names c.name) cs n (stays_by (list_any (λ m. bytes_eq m c.name) names) names c.name n h)

pub cell_named : (names : List (List ℕ)) (cs : List Cell) (c : Cell) → Contains cs c → Contains (names_with names cs) c.name
cell_named names [] c h = absurd (Contains-nil c h)
cell_named names (x ∷ xs) c h =
    ⊎_elim
    (λ (e : x ≡ c). subst (λ (z : Cell). Contains (names_with names (x ∷ xs)) z.name) e (names_stay (name_added names x.name) xs x.name (named_by (list_any (λ m. bytes_eq m x.name) names) names x.name refl)))
    (λ (later : Contains xs c). cell_named (name_added names x.name) xs c later) (Contains-cases x xs c h)

-- ---- a cell of a row is one of the cells of its term

abbrev Where : ℕ → ℕ → ℕ → List Line → Cell → Type 0
Where term first t ls c = ((t ≡ term) × Contains (cells_from ls) c) ⊎ ((first ≤ t) × Contains (cells_from (drop (t + 1 - first) ls)) c)

drop_more : (n m : ℕ) (l : Line) (ls : List Line) (c : Cell) → n ≡ suc m → Contains (cells_from (drop m ls)) c → Contains (cells_from (drop n (l ∷ ls))) c
drop_more n m l ls c e h = subst (λ k. Contains (cells_from (drop k (l ∷ ls))) c) (sym e) h

line_cells : (l : Line) (ls : List Line) → is_term l.kind ≡ false → cells_from (l ∷ ls) ≡ row_cells l ++ cells_from ls
line_cells l ls is = ap (λ b. cond b [] (row_cells l ++ cells_from ls)) is

step_where : (b : Bool) (term first t : ℕ) (l : Line) (ls : List Line) (c : Cell) → is_term l.kind ≡ b → Where (cond b first term) (first + 1) t ls c → Where term first t (l ∷ ls) c
step_where true term first t l ls c is (inl h) =
    let f = h.0 in
    let e : t + 1 - first ≡ suc 0 = omega (arith, f) in
    let far : first ≤ t = omega (arith, f) in
    inr (far, drop_more (t + 1 - first) 0 l ls c e h.1)
step_where false term first t l ls c is (inl h) = inl (h.0, subst (λ cs. Contains cs c) (sym (line_cells l ls is)) (Contains-append_right (row_cells l) (cells_from ls) c h.1))
step_where true term first t l ls c is (inr h) =
    let f = h.0 in
    let e : t + 1 - first ≡ suc (t + 1 - (first + 1)) = omega (arith, f) in
    let far : first ≤ t = omega (arith, f) in
    inr (far, drop_more (t + 1 - first) (t + 1 - (first + 1)) l ls c e h.1)
step_where false term first t l ls c is (inr h) =
    let f = h.0 in
    let e : t + 1 - first ≡ suc (t + 1 - (first + 1)) = omega (arith, f) in
    let far : first ≤ t = omega (arith, f) in
    inr (far, drop_more (t + 1 - first) (t + 1 - (first + 1)) l ls c e h.1)

cell_at : (term first t : ℕ) (ls : List Line) (i : ℕ) (line : Line) (c : Cell) → slice_get ls i ≡ Some line → is_row line.kind ≡ true → or_else 0 (slice_get (terms_from term first ls) i) ≡ t → Contains (row_cells line) c
    → Where term first t ls c
cell_at term first t [] i line c at is of h = absurd (let f : None ≡ Some line = at in cc)
cell_at term first t (l ∷ ls) zero line c at is of h =
    let same : l ≡ line = cc in
    let row : is_term l.kind ≡ false = row_no_term l (ap (λ (z : Line). is_row z.kind) same ∙ is) in
    let e : term ≡ t = ap (λ b. cond b first term) (sym row) ∙ of in
    let here : Contains (row_cells l) c = subst (λ (z : Line). Contains (row_cells z) c) (sym same) h in
    inl (sym e, subst (λ cs. Contains cs c) (sym (line_cells l ls row)) (Contains-append_left (row_cells l) (cells_from ls) c here))
cell_at term first t (l ∷ ls) (suc i) line c at is of h = step_where (is_term l.kind) term first t l ls c refl (cell_at (cond (is_term l.kind) first term) (first + 1) t ls i line c at is of h)

from_first : (l : Line) (ls : List Line) (t : ℕ) (c : Cell) → Where 0 1 t ls c → Contains (cells_from (drop (t + 1) (l ∷ ls))) c
from_first l ls t c (inl h) = let f = h.0 in let e : t + 1 ≡ suc 0 = omega (arith, f) in drop_more (t + 1) 0 l ls c e h.1
from_first l ls t c (inr h) = let e : t + 1 ≡ suc (t + 1 - 1) = omega arith in drop_more (t + 1) (t + 1 - 1) l ls c e h.1

either : (b : Bool) (n : ℕ) → cond b n n ≡ n
either true n = refl
either false n = refl

pub cell_of_term : (lines : List Line) (t i : ℕ) (line : Line) (c : Cell) → 0 < i → slice_get lines i ≡ Some line → is_row line.kind ≡ true → or_else 0 (slice_get (terms_from 0 0 lines) i) ≡ t → Contains (row_cells line) c
    → Contains (cells_from (drop (t + 1) lines)) c
cell_of_term lines t zero line c pos at is of h = absurd (omega arith)
cell_of_term [] t (suc i) line c pos at is of h = absurd (let f : None ≡ Some line = at in cc)
cell_of_term (l ∷ ls) t (suc i) line c pos at is of h =
    let of_rest : or_else 0 (slice_get (terms_from 0 1 ls) i) ≡ t = ap (λ z. or_else 0 (slice_get (terms_from z 1 ls) i)) (sym (either (is_term l.kind) 0)) ∙ of in
    from_first l ls t c (cell_at 0 1 t ls i line c at is of_rest h)

word_there : (ws : List (List ℕ)) (k : ℕ) (w : List ℕ) → slice_get ws k ≡ Some w → Contains ws w
word_there [] k w at = absurd (let f : None ≡ Some w = at in cc)
word_there (v ∷ vs) zero w at = let same : v ≡ w = cc in subst (Contains (v ∷ vs)) same (Contains-head v vs)
word_there (v ∷ vs) (suc k) w at = Contains-later v vs w (word_there vs k w at)

pub cell_of_row : (line : Line) (k : ℕ) (w : List ℕ) → is_row line.kind ≡ true → 6 ≤ k → slice_get line.words k ≡ Some w → Contains (row_cells line) (cell_of w)
cell_of_row line k w is far at = subst (λ cs. Contains cs (cell_of w)) (sym (cells_of_row line is)) (Contains-map cell_of (drop 6 line.words) w (word_there (drop 6 line.words) (k - 6) w (behind_six line.words k w far at)))

-- ---- the term's line

-- one of these lines, the first of which has the number first, begins the term, and isn't behind the one at this place
record IsTermLine (first t i : ℕ) (ls : List Line) : Type 0 where
  place : ℕ
  is : t ≡ first + place
  before : place ≤ i
  line : Line
  at : slice_get ls place ≡ Some line
  begins : is_term line.kind ≡ true

term_here : (b : Bool) (term first t : ℕ) (l : Line) (ls : List Line) → is_term l.kind ≡ b → cond b first term ≡ t → (t ≡ term) ⊎ IsTermLine first t 0 (l ∷ ls)
term_here true term first t l ls is of =
    let e : t ≡ first + 0 = omega (arith, of) in
    let low : 0 ≤ 0 = omega arith in
    inr (record { place = 0; is = e; before = low; line = l; at = refl; begins = is })
term_here false term first t l ls is of = inl (sym of)

term_later : (b : Bool) (term first t i : ℕ) (l : Line) (ls : List Line) → is_term l.kind ≡ b → (t ≡ cond b first term) ⊎ IsTermLine (first + 1) t i ls → (t ≡ term) ⊎ IsTermLine first t (suc i) (l ∷ ls)
term_later true term first t i l ls is (inl e) =
    let f : t ≡ first + 0 = omega (arith, e) in
    let low : 0 ≤ suc i = omega arith in
    inr (record { place = 0; is = f; before = low; line = l; at = refl; begins = is })
term_later false term first t i l ls is (inl e) = inl e
term_later b term first t i l ls is (inr h) =
    let g = h.is in
    let k = h.before in
    let e : t ≡ first + suc h.place = omega (arith, g) in
    let low : suc h.place ≤ suc i = omega (arith, k) in
    inr (record { place = suc h.place; is = e; before = low; line = h.line; at = h.at; begins = h.begins })

term_line : (term first t : ℕ) (ls : List Line) (i : ℕ) (line : Line) → slice_get ls i ≡ Some line → or_else 0 (slice_get (terms_from term first ls) i) ≡ t → (t ≡ term) ⊎ IsTermLine first t i ls
term_line term first t [] i line at of = absurd (let f : None ≡ Some line = at in cc)
term_line term first t (l ∷ ls) zero line at of = term_here (is_term l.kind) term first t l ls refl of
term_line term first t (l ∷ ls) (suc i) line at of = term_later (is_term l.kind) term first t i l ls refl (term_line (cond (is_term l.kind) first term) (first + 1) t ls i line at of)

-- a row's term begins before it
pub term_above : (lines : List Line) (i : ℕ) (line : Line) → 0 < i → slice_get lines i ≡ Some line → is_row line.kind ≡ true → or_else 0 (slice_get (terms_from 0 0 lines) i) < i
term_above lines i line pos at is =
    let t = or_else 0 (slice_get (terms_from 0 0 lines) i) in
    ⊎_elim (λ (e : t ≡ 0). subst (λ z. z < i) (sym e) pos)
    (λ (h : IsTermLine 0 t i lines).
    let other : h.place ≢ i = λ e.
    let one : Some h.line ≡ Some line = sym h.at ∙ ap (slice_get lines) e ∙ at in
    let same : h.line ≡ line = cc in
    let no : is_term line.kind ≡ false = row_no_term line is in
    let yes : is_term line.kind ≡ true = ap (λ (z : Line). is_term z.kind) (sym same) ∙ h.begins in
    absurd (let bad : false ≡ true = sym no ∙ yes in cc) in
    let low = h.before in
    let less : h.place < i = omega (arith, other, low) in
    let place : h.place ≡ t = let g = h.is in omega (arith, g) in
    subst (λ z. z < i) place less)
    (term_line 0 0 t lines i line at refl)

-- ---- the names over the columns

heading_within : (left : ℕ) (hs : List ℕ) (all : List Line) (first : ℕ) (ls : List Line) (j : ℕ) (line : Line) (h : Help) → slice_get ls j ≡ Some line → ((first + j == 0) || is_term line.kind) ≡ true
    → Contains (headings_over (plus (height_in hs (first + j)) 20) (table_of left all (first + j))) h → Contains (headings_from left hs all first ls) h
heading_within left hs all first [] j line h at test c = absurd (let f : None ≡ Some line = at in cc)
heading_within left hs all first (l ∷ ls) zero line h at test c =
    let same : l ≡ line = cc in
    let e : first + 0 ≡ first = omega arith in
    let tested : ((first == 0) || is_term l.kind) ≡ true = ap (λ z. (first == 0) || is_term z.kind) same ∙ ap (λ n. (n == 0) || is_term line.kind) (sym e) ∙ test in
    let own = headings_over (plus (height_in hs first) 20) (table_of left all first) in
    let rest = headings_from left hs all (first + 1) ls in
    let here : Contains own h = subst (λ n. Contains (headings_over (plus (height_in hs n) 20) (table_of left all n)) h) e c in
    Contains-append_left (cond ((first == 0) || is_term l.kind) own []) rest h (subst (λ b. Contains (cond b own []) h) (sym tested) here)
heading_within left hs all first (l ∷ ls) (suc j) line h at test c =
    let e : first + suc j ≡ (first + 1) + j = omega arith in
    let own = headings_over (plus (height_in hs first) 20) (table_of left all first) in
    let rest = headings_from left hs all (first + 1) ls in
    Contains-append_right (cond ((first == 0) || is_term l.kind) own []) rest h
    (heading_within left hs all (first + 1) ls j line h at (ap (λ n. (n == 0) || is_term line.kind) (sym e) ∙ test)
    (subst (λ n. Contains (headings_over (plus (height_in hs n) 20) (table_of left all n)) h) e c))

always : (b : Bool) → (b || true) ≡ true
always true = refl
always false = refl

heading_first : (left : ℕ) (hs : List ℕ) (lines : List Line) (i : ℕ) (line : Line) (h : Help) → slice_get lines i ≡ Some line → Contains (headings_over (plus (height_in hs 0) 20) (table_of left lines 0)) h → Contains (headings_from left hs lines 0 lines) h
heading_first left hs [] i line h at c = absurd (let f : None ≡ Some line = at in cc)
heading_first left hs (l ∷ ls) i line h at c = heading_within left hs (l ∷ ls) 0 (l ∷ ls) 0 l h refl refl c

-- over the cell of word k of row i
pub heading_of_cell : (left : ℕ) (hs : List ℕ) (lines : List Line) (t i k : ℕ) (line : Line) (word : List ℕ) → 0 < i → slice_get lines i ≡ Some line → is_row line.kind ≡ true → 6 ≤ k → slice_get line.words k ≡ Some word
    → or_else 0 (slice_get (terms_from 0 0 lines) i) ≡ t → Contains (headings_from left hs lines 0 lines) (heading_over (plus (height_in hs t) 20) (table_of left lines t) (name_of word))
heading_of_cell left hs lines t i k line word pos at is far stands of =
    let cs = cells_from (drop (t + 1) lines) in
    let table = table_of left lines t in
    let y = plus (height_in hs t) 20 in
    let heading = heading_over y table (name_of word) in
    let cell = cell_of_term lines t i line (cell_of word) pos at is of (cell_of_row line k word is far stands) in
    let name : Contains (names_with [] cs) (name_of word) = cell_named [] cs (cell_of word) cell in
    let column : Contains table.columns (column_of cs (name_of word)) = Contains-map (column_of cs) (names_with [] cs) (name_of word) name in
    let over : Contains (headings_over y table) heading = Contains-map (λ (c : Column). heading_over y table c.name) table.columns (column_of cs (name_of word)) column in
    ⊎_elim (λ (e : t ≡ 0). heading_first left hs lines i line heading at (subst (λ n. Contains (headings_over (plus (height_in hs n) 20) (table_of left lines n)) heading) e over))
    (λ (h : IsTermLine 0 t i lines).
    heading_within left hs lines 0 lines h.place h.line heading h.at (ap (λ b. (0 + h.place == 0) || b) h.begins ∙ always (0 + h.place == 0))
    (subst (λ n. Contains (headings_over (plus (height_in hs n) 20) (table_of left lines n)) heading) h.is over))
    (term_line 0 0 t lines i line at of)

-- ---- a row among the lines behind its term's

begun_up : (b : Bool) (term first : ℕ) → term ≤ first → (term ≤ cond b first term) × (cond b first term ≤ first + 1)
begun_up true term first h = let low : first ≤ first + 1 = omega arith in (h, low)
begun_up false term first h = let same : term ≤ term = omega arith in let low : term ≤ first + 1 = omega arith in (same, low)

-- no line belongs to a term before the one at hand
terms_up : (term first : ℕ) (ls : List Line) (i : ℕ) (other : Line) → term ≤ first → slice_get ls i ≡ Some other → term ≤ or_else 0 (slice_get (terms_from term first ls) i)
terms_up term first [] i other low there = absurd (let f : None ≡ Some other = there in cc)
terms_up term first (l ∷ ls) zero other low there = (begun_up (is_term l.kind) term first low).0
terms_up term first (l ∷ ls) (suc i) other low there =
    let begun = begun_up (is_term l.kind) term first low in
    let up = begun.0 in
    let rest = terms_up (cond (is_term l.kind) first term) (first + 1) ls i other begun.1 there in
    omega (arith, up, rest)

-- from a line that begins a term on
begins_at : (term first : ℕ) (ls : List Line) (p i : ℕ) (line other : Line) → term ≤ first → p ≤ i → slice_get ls p ≡ Some line → is_term line.kind ≡ true → slice_get ls i ≡ Some other
    → first + p ≤ or_else 0 (slice_get (terms_from term first ls) i)
begins_at term first [] p i line other low le at is there = absurd (let f : None ≡ Some line = at in cc)
begins_at term first (l ∷ ls) zero zero line other low le at is there =
    let same : l ≡ line = cc in
    let begun : cond (is_term l.kind) first term ≡ first = ap (λ b. cond b first term) (ap (λ (z : Line). is_term z.kind) same ∙ is) in
    omega (arith, begun)
begins_at term first (l ∷ ls) zero (suc i) line other low le at is there =
    let same : l ≡ line = cc in
    let begun : cond (is_term l.kind) first term ≡ first = ap (λ b. cond b first term) (ap (λ (z : Line). is_term z.kind) same ∙ is) in
    let rest = terms_up (cond (is_term l.kind) first term) (first + 1) ls i other (begun_up (is_term l.kind) term first low).1 there in
    omega (arith, begun, rest)
begins_at term first (l ∷ ls) (suc p) zero line other low le at is there = absurd (omega arith)
begins_at term first (l ∷ ls) (suc p) (suc i) line other low le at is there =
    let less : p ≤ i = omega arith in
    let rest = begins_at (cond (is_term l.kind) first term) (first + 1) ls p i line other (begun_up (is_term l.kind) term first low).1 less at is there in
    omega (arith, rest)

-- a line behind a row's term belongs to no term before it
pub term_stays : (lines : List Line) (t j i : ℕ) (row other : Line) → slice_get lines j ≡ Some row → or_else 0 (slice_get (terms_from 0 0 lines) j) ≡ t → t ≤ i → slice_get lines i ≡ Some other → t ≤ or_else 0 (slice_get (terms_from 0 0 lines) i)
term_stays lines t j i row other at of le there =
    ⊎_elim (λ (e : t ≡ 0). omega (arith, e))
    (λ (h : IsTermLine 0 t j lines).
    let e = h.is in
    let low : 0 ≤ 0 = omega arith in
    let up : h.place ≤ i = omega (arith, e, le) in
    let r = begins_at 0 0 lines h.place i h.line other low up h.at h.begins there in
    omega (arith, e, r))
    (term_line 0 0 t lines j row at of)

-- the first row with a number is found at its place or before it
record IsFound (n : ℕ) (ls : List Line) (word : List ℕ) (m : ℕ) : Type 0 where
  place : ℕ
  is : row_from n ls word ≡ n + place
  before : place ≤ m
  line : Line
  at : slice_get ls place ≡ Some line
  row : is_row line.kind ≡ true
  tells : word_in line.words 3 ≡ word

found_by : (b : Bool) (n : ℕ) (l : Line) (ls : List Line) (word : List ℕ) (m : ℕ) → (is_row l.kind && bytes_eq (word_in l.words 3) word) ≡ b → (b ≡ false → IsFound (n + 1) ls word m) → IsFound n (l ∷ ls) word (suc m)
found_by true n l ls word m e rest =
    let parts = and_parts (is_row l.kind) (bytes_eq (word_in l.words 3) word) e in
    let here : row_from n (l ∷ ls) word ≡ n = ap (λ b. cond b n (row_from (n + 1) ls word)) e in
    let zero_place : row_from n (l ∷ ls) word ≡ n + 0 = omega (arith, here) in
    let low : 0 ≤ suc m = omega arith in
    record { place = 0; is = zero_place; before = low; line = l; at = refl; row = parts.0; tells = (bytes_eq-Decides (word_in l.words 3) word).0 parts.1 }
found_by false n l ls word m e rest =
    let r = rest refl in
    let here : row_from n (l ∷ ls) word ≡ row_from (n + 1) ls word = ap (λ b. cond b n (row_from (n + 1) ls word)) e in
    let place = r.is in
    let k = r.before in
    let is : row_from n (l ∷ ls) word ≡ n + suc r.place = omega (arith, here, place) in
    let low : suc r.place ≤ suc m = omega (arith, k) in
    record { place = suc r.place; is = is; before = low; line = r.line; at = r.at; row = r.row; tells = r.tells }

found : (n : ℕ) (ls : List Line) (word : List ℕ) (m : ℕ) (line : Line) → slice_get ls m ≡ Some line → is_row line.kind ≡ true → word_in line.words 3 ≡ word → IsFound n ls word m
found n [] word m line at is tells = absurd (let f : None ≡ Some line = at in cc)
found n (l ∷ ls) word zero line at is tells =
    let same : l ≡ line = cc in
    let row : is_row l.kind ≡ true = ap (λ (z : Line). is_row z.kind) same ∙ is in
    let told : word_in l.words 3 ≡ word = ap (λ (z : Line). word_in z.words 3) same ∙ tells in
    let test : (is_row l.kind && bytes_eq (word_in l.words 3) word) ≡ true = ap (λ b. b && bytes_eq (word_in l.words 3) word) row ∙ (bytes_eq-Decides (word_in l.words 3) word).1 told in
    let here : row_from n (l ∷ ls) word ≡ n = ap (λ b. cond b n (row_from (n + 1) ls word)) test in
    let zero_place : row_from n (l ∷ ls) word ≡ n + 0 = omega (arith, here) in
    let low : 0 ≤ 0 = omega arith in
    record { place = 0; is = zero_place; before = low; line = l; at = refl; row = row; tells = told }
found n (l ∷ ls) word (suc m) line at is tells = found_by (is_row l.kind && bytes_eq (word_in l.words 3) word) n l ls word m refl (λ _. found (n + 1) ls word m line at is tells)

-- the row with this number is found at its own place
pub row_found : (lines : List Line) (t j r : ℕ) (row : Line) (word : List ℕ) → RowsStandBehind lines → slice_get lines j ≡ Some row → is_row row.kind ≡ true → or_else 0 (slice_get (terms_from 0 0 lines) j) ≡ t
    → word_in row.words 3 ≡ word → is_decimal r word ≡ true → t + 1 + row_from 0 (drop (t + 1) lines) word ≡ j
row_found lines t j r row word behind at is of tells number =
    let own : j ≡ or_else 0 (slice_get (terms_from 0 0 lines) j) + 1 + r = behind j r row at is (ap (is_decimal r) tells ∙ number) in
    let place : j ≡ (t + 1) + (j - (t + 1)) = omega (arith, own, of) in
    let there : slice_get (drop (t + 1) lines) (j - (t + 1)) ≡ Some row = slice_get-drop (t + 1) lines (j - (t + 1)) ∙ ap (slice_get lines) (sym place) ∙ at in
    let f = found 0 (drop (t + 1) lines) word (j - (t + 1)) row there is tells in
    let k = f.before in
    let e = f.is in
    let at_f : slice_get lines (t + 1 + f.place) ≡ Some f.line = sym (slice_get-drop (t + 1) lines f.place) ∙ f.at in
    let first : t + 1 + f.place ≡ or_else 0 (slice_get (terms_from 0 0 lines) (t + 1 + f.place)) + 1 + r = behind (t + 1 + f.place) r f.line at_f f.row (ap (is_decimal r) f.tells ∙ number) in
    let le : t ≤ t + 1 + f.place = omega arith in
    let stays = term_stays lines t j (t + 1 + f.place) row f.line at of le at_f in
    omega (arith, own, of, k, e, first, stays)
