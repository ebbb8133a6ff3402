-- In lines that are read each row stands behind its term's line by its number and one.
-- The idea: while rows are read, the lines since the term's own are counted by the number of rows.
use Rattle.std.proofs.Common.{◌≡◌, ℕ, zero, suc, ◌+◌, Bool, true, false, cond, List, [], ◌∷◌, Option, Some, None, length, slice_get, refl, sym, ap, ◌∙◌, subst, arith}
use Rattle.std.specs.Prelude.{◌==◌, ◌&&◌}
use Rattle.std.proofs.lemmas.Bool.{eqb-true, and_parts}
use Rattle.su_explained.specs.declared.kinds.Kind.{Kind}
use Rattle.su_explained.specs.declared.kinds.Kind.TheVariants as kind
use Rattle.su_explained.specs.declared.pieces.Piece.{Piece}
use Rattle.su_explained.specs.declared.states.State.{State}
use Rattle.su_explained.specs.declared.reading.Line.{Line}
use Rattle.su_explained.specs.Numbers.{number_in}
use Rattle.su_explained.specs.Checks.{is_decimal, some_is, cells}
use Rattle.su_explained.specs.Lines.{fits}
use Rattle.su_explained.specs.TermLines.{row_fits}
use Rattle.su_explained.specs.States.{at_start, has_room_in, state_behind}
use Rattle.su_explained.specs.Order.{follows, stepped}
use Rattle.su_explained.specs.Pieces.{cut_of}
use Rattle.su_explained.specs.TextLines.{behind_words, IsLineOf, AreRead, AreLinesOf}
use Rattle.su_draw.specs.Terms.{is_term, is_row, word_in, or_else, terms_from, RowsStandBehind}

never : {A : Type 0} → false ≡ true → A
never e = absurd (let f : false ≡ true = e in cc)

-- a term has begun, and no more than rows stand behind its line
abbrev is_among_rows : Option Kind → Bool
is_among_rows (Some kind.Term) = true
is_among_rows (Some kind.Row) = true
is_among_rows _ = false

abbrev InRows : State → ℕ → ℕ → Type 0
InRows s term first = is_among_rows s.last ≡ true → first ≡ term + 1 + s.rows

some_if : {X : Type 0} (b : Bool) (x y : X) → cond b (Some x) None ≡ Some y → (b ≡ true) × (x ≡ y)
some_if true x y e = (refl, cc)
some_if false x y e = absurd (let f : None ≡ Some y = e in cc)

row_follows : (s : State) (last : Option Kind) → follows s kind.Row last ≡ true → is_among_rows last ≡ true
row_follows s (Some kind.Term) e = refl
row_follows s (Some kind.Row) e = refl
row_follows s None e = e
row_follows s (Some kind.Query) e = e
row_follows s (Some kind.Variables) e = e
row_follows s (Some kind.Head) e = e
row_follows s (Some kind.Compare) e = e
row_follows s (Some kind.Kept) e = e
row_follows s (Some kind.Fold) e = e
row_follows s (Some kind.Sources) e = e
row_follows s (Some kind.Covered) e = e
row_follows s (Some kind.Count) e = e
row_follows s (Some kind.Attribute) e = e
row_follows s (Some kind.Relation) e = e
row_follows s (Some kind.Object) e = e
row_follows s (Some kind.Dependency) e = e
row_follows s (Some kind.Declared) e = e
row_follows s (Some kind.Maximal) e = e

-- behind a line of this kind
behind_line : (s : State) (k : Kind) (n term first : ℕ) → follows s k s.last ≡ true → InRows s term first → InRows (state_behind s k n) (cond (is_term k) first term) (first + 1)
behind_line s kind.Term n term first f h m = omega arith
behind_line s kind.Row n term first f h m = let e = h (row_follows s s.last f) in omega arith
behind_line s kind.Query n term first f h m = never m
behind_line s kind.Variables n term first f h m = never m
behind_line s kind.Head n term first f h m = never m
behind_line s kind.Compare n term first f h m = never m
behind_line s kind.Kept n term first f h m = never m
behind_line s kind.Fold n term first f h m = never m
behind_line s kind.Sources n term first f h m = never m
behind_line s kind.Covered n term first f h m = never m
behind_line s kind.Count n term first f h m = never m
behind_line s kind.Attribute n term first f h m = never m
behind_line s kind.Relation n term first f h m = never m
behind_line s kind.Object n term first f h m = never m
behind_line s kind.Dependency n term first f h m = never m
behind_line s kind.Declared n term first f h m = never m
behind_line s kind.Maximal n term first f h m = never m

-- the parts of a step
record Stepped (s : State) (k : Kind) (words : List (List ℕ)) (next : State) : Type 0 where
  follows_it : follows s k s.last ≡ true
  fits_it : fits s k words ≡ true
  leads : state_behind s k (length words) ≡ next

step_parts : (s : State) (k : Kind) (words : List (List ℕ)) (next : State) → stepped s k words ≡ Some next → Stepped s k words next
step_parts s k words next e =
    let parts = some_if (has_room_in s && follows s k s.last && fits s k words) (state_behind s k (length words)) next e in
    let tests = and_parts (has_room_in s && follows s k s.last) (fits s k words) parts.0 in
    record { follows_it = (and_parts (has_room_in s) (follows s k s.last) tests.0).1; fits_it = tests.1; leads = parts.1 }

line_steps : (s : State) (line : Line) (words : List (List ℕ)) (next : State) → IsLineOf line words → behind_words s words ≡ Some next → Stepped s line.kind line.words next
line_steps s line words next is step =
    let P : List (List ℕ) → Type 0 = λ ws. stepped s line.kind ws ≡ Some next in
    step_parts s line.kind line.words next (subst P (sym is.0) (cc))

one_number : (o : Option ℕ) (a b : ℕ) → some_is (λ n. n == a) o ≡ true → some_is (λ n. n == b) o ≡ true → a ≡ b
one_number None a b e f = never e
one_number (Some n) a b e f = sym (eqb-true n a e) ∙ eqb-true n b f

-- a row's line tells the number of rows so far
row_number : (s : State) (words : List (List ℕ)) (r : ℕ) → row_fits s words ≡ true → is_decimal r (word_in words 3) ≡ true → r ≡ s.rows
unfolding is_decimal
row_number s [] r fit told = never fit
row_number s (i ∷ []) r fit told = never fit
row_number s (i ∷ j ∷ []) r fit told = never fit
row_number s (i ∷ j ∷ w ∷ []) r fit told = never fit
row_number s (i ∷ j ∷ w ∷ row ∷ []) r fit told = never fit
row_number s (i ∷ j ∷ w ∷ row ∷ variable ∷ []) r fit told = never fit
row_number s (i ∷ j ∷ w ∷ row ∷ variable ∷ object ∷ words) r fit told = one_number (number_in row) r s.rows told (and_parts (is_decimal s.rows row) (cells words) fit).0

pub is_row-Row : (k : Kind) → is_row k ≡ true → k ≡ kind.Row
is_row-Row kind.Row e = refl
is_row-Row kind.Term e = never e
is_row-Row kind.Query e = never e
is_row-Row kind.Variables e = never e
is_row-Row kind.Head e = never e
is_row-Row kind.Compare e = never e
is_row-Row kind.Kept e = never e
is_row-Row kind.Fold e = never e
is_row-Row kind.Sources e = never e
is_row-Row kind.Covered e = never e
is_row-Row kind.Count e = never e
is_row-Row kind.Attribute e = never e
is_row-Row kind.Relation e = never e
is_row-Row kind.Object e = never e
is_row-Row kind.Dependency e = never e
is_row-Row kind.Declared e = never e
is_row-Row kind.Maximal e = never e

row_here : (s : State) (k : Kind) (words : List (List ℕ)) (next : State) (term first r : ℕ) → Stepped s k words next → InRows s term first → is_row k ≡ true → is_decimal r (word_in words 3) ≡ true
    → first ≡ cond (is_term k) first term + 1 + r
row_here s k words next term first r step in_rows is told =
    let e = is_row-Row k is in
    let f : follows s kind.Row s.last ≡ true = ap (λ z. follows s z s.last) (sym e) ∙ step.follows_it in
    let g : row_fits s words ≡ true = ap (λ z. fits s z words) (sym e) ∙ step.fits_it in
    let n = row_number s words r g told in
    let m = in_rows (row_follows s s.last f) in
    let t : cond (is_term k) first term ≡ term = ap (λ z. cond (is_term z) first term) e in
    omega (arith, n, m, t)

-- from a state on
rows_from : (s : State) (ps : List Piece) (ls : List Line) (end : State) (term first : ℕ) → AreRead s ps ls end → InRows s term first
    → (j r : ℕ) (line : Line) → slice_get ls j ≡ Some line → is_row line.kind ≡ true → is_decimal r (word_in line.words 3) ≡ true
    → first + j ≡ or_else 0 (slice_get (terms_from term first ls) j) + 1 + r
rows_from s [] [] end term first read h j r line at is told = absurd (let e : None ≡ Some line = at in cc)
rows_from s [] (l ∷ ls) end term first read h j r line at is told = absurd read
rows_from s (p ∷ ps) [] end term first read h j r line at is told = absurd read
rows_from s (p ∷ ps) (l ∷ ls) end term first read h zero r line at is told =
    let step = line_steps s l p.words read.1.0 read.0 read.1.1 in
    let same : l ≡ line = cc in
    let is_l : is_row l.kind ≡ true = ap (λ z. is_row z.kind) same ∙ is in
    let told_l : is_decimal r (word_in l.words 3) ≡ true = ap (λ z. is_decimal r (word_in z.words 3)) same ∙ told in
    let e = row_here s l.kind l.words read.1.0 term first r step h is_l told_l in
    omega (arith, e)
rows_from s (p ∷ ps) (l ∷ ls) end term first read h (suc j) r line at is told =
    let step = line_steps s l p.words read.1.0 read.0 read.1.1 in
    let t = cond (is_term l.kind) first term in
    let P : State → Type 0 = λ z. InRows z t (first + 1) in
    let next : InRows read.1.0 t (first + 1) = subst P step.leads (behind_line s l.kind (length l.words) term first step.follows_it h) in
    let e = rows_from read.1.0 ps ls end t (first + 1) read.1.2 next j r line at is told in
    omega (arith, e)

pub rows_stand_behind : (text : List ℕ) (lines : List Line) → AreLinesOf text lines → RowsStandBehind lines
rows_stand_behind text lines are j r line at is told =
    let e = rows_from at_start (cut_of text).pieces lines are.end 0 0 are.read (λ h. never h) j r line at is told in
    omega (arith, e)
