-- A symbol of two cells of a term has a mark.
-- The idea: the cells up to the next term are counted line by line; a symbol that is counted twice is listed at the last cell but one that has it.
use Rattle.std.proofs.Common.{◌≡◌, ◌≢◌, ◌≤◌, ◌<◌, ◌⊎◌, ⊎_elim, ℕ, zero, suc, ◌+◌, Bool, true, false, cond, List, [], ◌∷◌, ◌++◌, Some, None, map, drop, slice_get, refl, sym, ap, ◌∙◌, subst, inl, inr, arith}
use Rattle.std.specs.Prelude.{◌-◌, ◌==◌, Contains}
use Rattle.std.specs.Str.{bytes_eq}
use Rattle.std.proofs.lemmas.Bool.{eqb-false}
use Rattle.std.proofs.lemmas.Slice.Eq.{bytes_eq-Decides}
use Rattle.su_base.proofs.Items.{Contains-nil, Contains-head, Contains-later, Contains-cases}
use Rattle.su_explained.specs.declared.reading.Line.{Line}
use Rattle.su_draw.specs.declared.cells.Cell.{Cell}
use Rattle.su_draw.specs.Things.{symbol_of}
use Rattle.su_draw.specs.Terms.{is_term, is_row, or_else, terms_from}
use Rattle.su_draw.specs.inside.Lay.{cell_of, row_cells, cells_from, count_from, classes_from, mark_from}
use Rattle.su_draw.proofs.RowLines.{is_row-Row}
use Rattle.su_draw.proofs.Sums.{slice_get-drop}

-- ---- counting

step_count : (b : Bool) (n m : ℕ) → cond b (n + 1) n + m ≡ n + (cond b 1 0 + m)
step_count true n m = omega arith
step_count false n m = omega arith

count_on : (n : ℕ) (cs : List Cell) (s : List ℕ) → count_from n cs s ≡ n + count_from 0 cs s
count_on n [] s = omega arith
count_on n (c ∷ cs) s =
    let b = bytes_eq c.symbol s in
    let start : cond b (0 + 1) 0 ≡ cond b 1 0 = one b in
    count_on (cond b (n + 1) n) cs s ∙ step_count b n (count_from 0 cs s) ∙ ap (λ t. n + t) (ap (λ z. z + count_from 0 cs s) (sym start) ∙ sym (count_on (cond b (0 + 1) 0) cs s))
  where
    one : (b : Bool) → cond b (0 + 1) 0 ≡ cond b 1 0
    one true = refl
    one false = refl

-- how many cells have the symbol: the first one, and those behind it
count_cons : (c : Cell) (cs : List Cell) (s : List ℕ) → count_from 0 (c ∷ cs) s ≡ cond (bytes_eq c.symbol s) 1 0 + count_from 0 cs s
count_cons c cs s = count_on (cond (bytes_eq c.symbol s) (0 + 1) 0) cs s ∙ ap (λ z. z + count_from 0 cs s) (one (bytes_eq c.symbol s))
  where
    one : (b : Bool) → cond b (0 + 1) 0 ≡ cond b 1 0
    one true = refl
    one false = refl

count_append : (xs ys : List Cell) (s : List ℕ) → count_from 0 (xs ++ ys) s ≡ count_from 0 xs s + count_from 0 ys s
count_append [] ys s = omega arith
count_append (x ∷ xs) ys s =
    let a = count_cons x (xs ++ ys) s in
    let b = count_append xs ys s in
    let c = count_cons x xs s in
    omega (arith, a, b, c)

count_same : (c : Cell) (cs : List Cell) (s : List ℕ) → c.symbol ≡ s → count_from 0 (c ∷ cs) s ≡ 1 + count_from 0 cs s
count_same c cs s e = count_cons c cs s ∙ ap (λ b. cond b 1 0 + count_from 0 cs s) ((bytes_eq-Decides c.symbol s).1 e)

count_more : (c : Cell) (cs : List Cell) (s : List ℕ) → count_from 0 cs s ≤ count_from 0 (c ∷ cs) s
count_more c cs s = let a = count_cons c cs s in omega (arith, a)

-- ---- what is counted twice is listed, and has a mark

listed_by : (same last : Bool) (c : Cell) (cs : List Cell) (s : List ℕ) → bytes_eq c.symbol s ≡ same → (count_from 0 cs c.symbol == 1) ≡ last
    → (2 ≤ count_from 0 cs s → Contains (classes_from cs) s) → 2 ≤ count_from 0 (c ∷ cs) s → Contains (cond last (c.symbol ∷ classes_from cs) (classes_from cs)) s
listed_by true true c cs s e f rest two =
    let same : c.symbol ≡ s = (bytes_eq-Decides c.symbol s).0 e in
    subst (Contains (c.symbol ∷ classes_from cs)) same (Contains-head c.symbol (classes_from cs))
listed_by true false c cs s e f rest two =
    let same : c.symbol ≡ s = (bytes_eq-Decides c.symbol s).0 e in
    let a = count_same c cs s same in
    let other : count_from 0 cs s ≢ 1 = λ n. eqb-false (count_from 0 cs c.symbol) 1 f (ap (count_from 0 cs) same ∙ n) in
    rest (omega (arith, a, other, two))
listed_by false last c cs s e f rest two =
    let a = count_cons c cs s ∙ ap (λ b. cond b 1 0 + count_from 0 cs s) e in
    let more : 2 ≤ count_from 0 cs s = omega (arith, a, two) in
    later last c cs s (rest more)
  where
    later : (last : Bool) (c : Cell) (cs : List Cell) (s : List ℕ) → Contains (classes_from cs) s → Contains (cond last (c.symbol ∷ classes_from cs) (classes_from cs)) s
    later true c cs s h = Contains-later c.symbol (classes_from cs) s h
    later false c cs s h = h

listed : (cs : List Cell) (s : List ℕ) → 2 ≤ count_from 0 cs s → Contains (classes_from cs) s
listed [] s two = absurd (omega arith)
listed (c ∷ cs) s two = listed_by (bytes_eq c.symbol s) (count_from 0 cs c.symbol == 1) c cs s refl refl (listed cs s) two

marked_by : (b : Bool) (n m : ℕ) → (b ≡ false → 0 < m) → 0 < cond b (n + 1) m
marked_by true n m h = omega arith
marked_by false n m h = h refl

marked : (n : ℕ) (cs : List (List ℕ)) (s : List ℕ) → Contains cs s → 0 < mark_from n cs s
marked n [] s c = absurd (Contains-nil s c)
marked n (x ∷ xs) s c =
    marked_by (bytes_eq x s) n (mark_from (n + 1) xs s)
    (λ other. ⊎_elim (λ e. absurd (let yes : true ≡ false = sym ((bytes_eq-Decides x s).1 e) ∙ other in cc)) (λ h. marked (n + 1) xs s h) (Contains-cases x xs s c))

pub counted_is_marked : (cs : List Cell) (s : List ℕ) → 2 ≤ count_from 0 cs s → 0 < mark_from 0 (classes_from cs) s
counted_is_marked cs s two = marked 0 (classes_from cs) s (listed cs s two)

-- ---- the cells of a row

one_in : (ws : List (List ℕ)) (p : ℕ) (w s : List ℕ) → slice_get ws p ≡ Some w → symbol_of w ≡ s → 1 ≤ count_from 0 (map cell_of ws) s
one_in [] p w s at e = absurd (let f : None ≡ Some w = at in cc)
one_in (v ∷ vs) zero w s at e =
    let same : v ≡ w = cc in
    let a = count_same (cell_of v) (map cell_of vs) s (ap symbol_of same ∙ e) in
    omega (arith, a)
one_in (v ∷ vs) (suc p) w s at e =
    let a = one_in vs p w s at e in
    let b = count_more (cell_of v) (map cell_of vs) s in
    omega (arith, a, b)

two_in : (ws : List (List ℕ)) (p q : ℕ) (v w s : List ℕ) → p < q → slice_get ws p ≡ Some v → slice_get ws q ≡ Some w → symbol_of v ≡ s → symbol_of w ≡ s → 2 ≤ count_from 0 (map cell_of ws) s
two_in ws p zero v w s lt at_v at_w e f = absurd (omega arith)
two_in [] p (suc q) v w s lt at_v at_w e f = absurd (let g : None ≡ Some w = at_w in cc)
two_in (x ∷ xs) zero (suc q) v w s lt at_v at_w e f =
    let same : x ≡ v = cc in
    let a = count_same (cell_of x) (map cell_of xs) s (ap symbol_of same ∙ e) in
    let b = one_in xs q w s at_w f in
    omega (arith, a, b)
two_in (x ∷ xs) (suc p) (suc q) v w s lt at_v at_w e f =
    let less : p < q = omega arith in
    let a = two_in xs p q v w s less at_v at_w e f in
    let b = count_more (cell_of x) (map cell_of xs) s in
    omega (arith, a, b)

pub behind_six : (words : List (List ℕ)) (k : ℕ) (w : List ℕ) → 6 ≤ k → slice_get words k ≡ Some w → slice_get (drop 6 words) (k - 6) ≡ Some w
behind_six words k w h at = let e : 6 + (k - 6) ≡ k = omega arith in slice_get-drop 6 words (k - 6) ∙ ap (slice_get words) e ∙ at

pub cells_of_row : (line : Line) → is_row line.kind ≡ true → row_cells line ≡ map cell_of (drop 6 line.words)
cells_of_row line is = ap (λ b. cond b (map cell_of (drop 6 line.words)) []) is

pub one_of_row : (line : Line) (k : ℕ) (w s : List ℕ) → is_row line.kind ≡ true → 6 ≤ k → slice_get line.words k ≡ Some w → symbol_of w ≡ s → 1 ≤ count_from 0 (row_cells line) s
one_of_row line k w s is h at e =
    let a = one_in (drop 6 line.words) (k - 6) w s (behind_six line.words k w h at) e in
    subst (λ cs. 1 ≤ count_from 0 cs s) (sym (cells_of_row line is)) a

pub two_of_row : (line : Line) (k m : ℕ) (v w s : List ℕ) → is_row line.kind ≡ true → 6 ≤ k → k < m → slice_get line.words k ≡ Some v → slice_get line.words m ≡ Some w → symbol_of v ≡ s → symbol_of w ≡ s → 2 ≤ count_from 0 (row_cells line) s
two_of_row line k m v w s is h lt at_v at_w e f =
    let less : k - 6 < m - 6 = omega arith in
    let far : 6 ≤ m = omega arith in
    let a = two_in (drop 6 line.words) (k - 6) (m - 6) v w s less (behind_six line.words k v h at_v) (behind_six line.words m w far at_w) e f in
    subst (λ cs. 2 ≤ count_from 0 cs s) (sym (cells_of_row line is)) a

-- ---- the lines of a term

pub row_no_term : (line : Line) → is_row line.kind ≡ true → is_term line.kind ≡ false
row_no_term line is = ap is_term (is_row-Row line.kind is)

-- so often at least the symbol stands in the cells of the term, whose line is the one before these, or one of these
abbrev Where : ℕ → ℕ → ℕ → List Line → List ℕ → ℕ → Type 0
Where term first t ls s c = ((t ≡ term) × (c ≤ count_from 0 (cells_from ls) s)) ⊎ ((first ≤ t) × (c ≤ count_from 0 (cells_from (drop (t + 1 - first) ls)) s))

drop_more : (n m : ℕ) (l : Line) (ls : List Line) (s : List ℕ) (c : ℕ) → n ≡ suc m → c ≤ count_from 0 (cells_from (drop m ls)) s → c ≤ count_from 0 (cells_from (drop n (l ∷ ls))) s
drop_more n m l ls s c e h = subst (λ k. c ≤ count_from 0 (cells_from (drop k (l ∷ ls))) s) (sym e) h

line_more : (l : Line) (ls : List Line) (s : List ℕ) → is_term l.kind ≡ false → count_from 0 (cells_from (l ∷ ls)) s ≡ count_from 0 (row_cells l) s + count_from 0 (cells_from ls) s
line_more l ls s is = ap (λ b. count_from 0 (cond b [] (row_cells l ++ cells_from ls)) s) is ∙ count_append (row_cells l) (cells_from ls) s

step_where : (b : Bool) (term first t : ℕ) (l : Line) (ls : List Line) (s : List ℕ) (c : ℕ) → is_term l.kind ≡ b → Where (cond b first term) (first + 1) t ls s c → Where term first t (l ∷ ls) s c
step_where true term first t l ls s c is (inl h) =
    let e : t + 1 - first ≡ suc 0 = let f = h.0 in omega (arith, f) in
    let far : first ≤ t = let f = h.0 in omega (arith, f) in
    inr (far, drop_more (t + 1 - first) 0 l ls s c e h.1)
step_where false term first t l ls s c is (inl h) = let a = line_more l ls s is in let b = h.1 in inl (h.0, omega (arith, a, b))
step_where true term first t l ls s c is (inr h) =
    let f = h.0 in
    let e : t + 1 - first ≡ suc (t + 1 - (first + 1)) = omega (arith, f) in
    let far : first ≤ t = omega (arith, f) in
    inr (far, drop_more (t + 1 - first) (t + 1 - (first + 1)) l ls s c e h.1)
step_where false term first t l ls s c is (inr h) =
    let f = h.0 in
    let e : t + 1 - first ≡ suc (t + 1 - (first + 1)) = omega (arith, f) in
    let far : first ≤ t = omega (arith, f) in
    inr (far, drop_more (t + 1 - first) (t + 1 - (first + 1)) l ls s c e h.1)

one_at : (term first t : ℕ) (ls : List Line) (i : ℕ) (line : Line) (s : List ℕ) (c : ℕ) → slice_get ls i ≡ Some line → is_row line.kind ≡ true → or_else 0 (slice_get (terms_from term first ls) i) ≡ t
    → c ≤ count_from 0 (row_cells line) s → Where term first t ls s c
one_at term first t [] i line s c at is of n = absurd (let f : None ≡ Some line = at in cc)
one_at term first t (l ∷ ls) zero line s c at is of n =
    let same : l ≡ line = cc in
    let row : is_term l.kind ≡ false = row_no_term l (ap (λ (z : Line). is_row z.kind) same ∙ is) in
    let e : term ≡ t = ap (λ b. cond b first term) (sym row) ∙ of in
    let a = line_more l ls s row in
    let b : c ≤ count_from 0 (row_cells l) s = subst (λ (z : Line). c ≤ count_from 0 (row_cells z) s) (sym same) n in
    inl (sym e, omega (arith, a, b))
one_at term first t (l ∷ ls) (suc i) line s c at is of n =
    step_where (is_term l.kind) term first t l ls s c refl (one_at (cond (is_term l.kind) first term) (first + 1) t ls i line s c at is of n)

two_at : (term first t : ℕ) (ls : List Line) (i j : ℕ) (one two : Line) (s : List ℕ) → term < first → i < j → slice_get ls i ≡ Some one → slice_get ls j ≡ Some two → is_row one.kind ≡ true → is_row two.kind ≡ true
    → or_else 0 (slice_get (terms_from term first ls) i) ≡ t → or_else 0 (slice_get (terms_from term first ls) j) ≡ t → 1 ≤ count_from 0 (row_cells one) s → 1 ≤ count_from 0 (row_cells two) s → Where term first t ls s 2
two_at term first t ls i zero one two s below lt at_one at_two is_one is_two of_one of_two n m = absurd (omega arith)
two_at term first t [] i (suc j) one two s below lt at_one at_two is_one is_two of_one of_two n m = absurd (let f : None ≡ Some two = at_two in cc)
two_at term first t (l ∷ ls) zero (suc j) one two s below lt at_one at_two is_one is_two of_one of_two n m =
    let same : l ≡ one = cc in
    let row : is_term l.kind ≡ false = row_no_term l (ap (λ (z : Line). is_row z.kind) same ∙ is_one) in
    let begun : cond (is_term l.kind) first term ≡ term = ap (λ b. cond b first term) row in
    let e : term ≡ t = sym begun ∙ of_one in
    let of_rest : or_else 0 (slice_get (terms_from term (first + 1) ls) j) ≡ t = ap (λ z. or_else 0 (slice_get (terms_from z (first + 1) ls) j)) (sym begun) ∙ of_two in
    let a = line_more l ls s row in
    let b : 1 ≤ count_from 0 (row_cells l) s = subst (λ (z : Line). 1 ≤ count_from 0 (row_cells z) s) (sym same) n in
    ⊎_elim (λ h. let d = h.1 in inl (sym e, omega (arith, a, b, d))) (λ h. absurd (let d = h.0 in omega (arith, d, e, below))) (one_at term (first + 1) t ls j two s 1 at_two is_two of_rest m)
two_at term first t (l ∷ ls) (suc i) (suc j) one two s below lt at_one at_two is_one is_two of_one of_two n m =
    let less : i < j = omega arith in
    let next : cond (is_term l.kind) first term < first + 1 = begun_below (is_term l.kind) first term below in
    step_where (is_term l.kind) term first t l ls s 2 refl (two_at (cond (is_term l.kind) first term) (first + 1) t ls i j one two s next less at_one at_two is_one is_two of_one of_two n m)
  where
    begun_below : (b : Bool) (first term : ℕ) → term < first → cond b first term < first + 1
    begun_below true first term h = omega arith
    begun_below false first term h = omega arith

-- from all lines, behind the first one
from_first : (l : Line) (ls : List Line) (t : ℕ) (s : List ℕ) (c : ℕ) → Where 0 1 t ls s c → c ≤ count_from 0 (cells_from (drop (t + 1) (l ∷ ls))) s
from_first l ls t s c (inl h) = let e : t + 1 ≡ suc 0 = let f = h.0 in omega (arith, f) in drop_more (t + 1) 0 l ls s c e h.1
from_first l ls t s c (inr h) = let e : t + 1 ≡ suc (t + 1 - 1) = omega arith in drop_more (t + 1) (t + 1 - 1) l ls s c e h.1

either : (b : Bool) (n : ℕ) → cond b n n ≡ n
either true n = refl
either false n = refl

pub one_line : (lines : List Line) (t i : ℕ) (line : Line) (s : List ℕ) (c : ℕ) → 0 < i → slice_get lines i ≡ Some line → is_row line.kind ≡ true → or_else 0 (slice_get (terms_from 0 0 lines) i) ≡ t
    → c ≤ count_from 0 (row_cells line) s → c ≤ count_from 0 (cells_from (drop (t + 1) lines)) s
one_line lines t zero line s c pos at is of n = absurd (omega arith)
one_line [] t (suc i) line s c pos at is of n = absurd (let f : None ≡ Some line = at in cc)
one_line (l ∷ ls) t (suc i) line s c pos at is of n =
    let of_rest : or_else 0 (slice_get (terms_from 0 1 ls) i) ≡ t = ap (λ z. or_else 0 (slice_get (terms_from z 1 ls) i)) (sym (either (is_term l.kind) 0)) ∙ of in
    from_first l ls t s c (one_at 0 1 t ls i line s c at is of_rest n)

pub two_lines : (lines : List Line) (t i j : ℕ) (one two : Line) (s : List ℕ) → 0 < i → i < j → slice_get lines i ≡ Some one → slice_get lines j ≡ Some two → is_row one.kind ≡ true → is_row two.kind ≡ true
    → or_else 0 (slice_get (terms_from 0 0 lines) i) ≡ t → or_else 0 (slice_get (terms_from 0 0 lines) j) ≡ t → 1 ≤ count_from 0 (row_cells one) s → 1 ≤ count_from 0 (row_cells two) s
    → 2 ≤ count_from 0 (cells_from (drop (t + 1) lines)) s
two_lines lines t zero j one two s pos lt at_one at_two is_one is_two of_one of_two n m = absurd (omega arith)
two_lines lines t (suc i) zero one two s pos lt at_one at_two is_one is_two of_one of_two n m = absurd (omega arith)
two_lines [] t (suc i) (suc j) one two s pos lt at_one at_two is_one is_two of_one of_two n m = absurd (let f : None ≡ Some one = at_one in cc)
two_lines (l ∷ ls) t (suc i) (suc j) one two s pos lt at_one at_two is_one is_two of_one of_two n m =
    let less : i < j = omega arith in
    let first : 0 < 1 = omega arith in
    let b = sym (either (is_term l.kind) 0) in
    let of_i : or_else 0 (slice_get (terms_from 0 1 ls) i) ≡ t = ap (λ z. or_else 0 (slice_get (terms_from z 1 ls) i)) b ∙ of_one in
    let of_j : or_else 0 (slice_get (terms_from 0 1 ls) j) ≡ t = ap (λ z. or_else 0 (slice_get (terms_from z 1 ls) j)) b ∙ of_two in
    from_first l ls t s 2 (two_at 0 1 t ls i j one two s first less at_one at_two is_one is_two of_i of_j n m)
