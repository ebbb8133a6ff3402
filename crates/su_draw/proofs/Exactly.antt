-- The things of a text stand for each drawn word exactly once.
use Rattle.std.proofs.Common.{◌≡◌, ◌≢◌, ◌<◌, ◌+◌, ℕ, zero, suc, Bool, true, false, cond, List, [], ◌∷◌, ◌++◌, Option, Some, None, filter, length, slice_get, refl, sym, ap, ◌∙◌, subst, arith, append-nil}
use Rattle.std.specs.Prelude.{◌==◌, ◌&&◌}
use Rattle.std.proofs.lemmas.List.Elements.{filter-append}
use Rattle.std.proofs.lemmas.Bool.{eq-eqb, ne_eqb}
use Rattle.su_draw.specs.declared.things.What.{What}
use Rattle.su_draw.specs.declared.things.Thing.{Thing}
use Rattle.su_explained.specs.declared.reading.Line.{Line}
use Rattle.su_draw.specs.Things.{text_shown, thing_of, things_behind, things_in, things_from, things_of}
use Rattle.su_draw.specs.Drawn.{drawn_as}
use Rattle.su_draw.specs.Once.{stands_for, thing_of_word, thing_at, StandOnce}

-- where the place is another one, or this one
of_other_line : (w : Option What) (i j m k : ℕ) (word : List ℕ) → j ≢ i → filter (stands_for i k) (thing_of w j m word) ≡ []
of_other_line None i j m k word h = refl
of_other_line (Some what) i j m k word h =
    let t : Thing = record { line = j; word = m; what = what; text = text_shown what word } in
    ap (λ b. cond (b && (m == k)) (t ∷ []) []) (ne_eqb j i h)

neither : (b : Bool) (t : Thing) → cond (b && false) (t ∷ []) [] ≡ []
neither true t = refl
neither false t = refl

of_other_word : (w : Option What) (i j m k : ℕ) (word : List ℕ) → m ≢ k → filter (stands_for i k) (thing_of w j m word) ≡ []
of_other_word None i j m k word h = refl
of_other_word (Some what) i j m k word h =
    let t : Thing = record { line = j; word = m; what = what; text = text_shown what word } in
    ap (λ b. cond ((j == i) && b) (t ∷ []) []) (ne_eqb m k h) ∙ neither (j == i) t

of_this_word : (w : Option What) (i k : ℕ) (word : List ℕ) → filter (stands_for i k) (thing_of w i k word) ≡ thing_of w i k word
of_this_word None i k word = refl
of_this_word (Some what) i k word =
    let t : Thing = record { line = i; word = k; what = what; text = text_shown what word } in
    ap (λ b. cond (b && (k == k)) (t ∷ []) []) (eq-eqb i i refl) ∙ ap (λ b. cond b (t ∷ []) []) (eq-eqb k k refl)

-- the words of a line
words_of_other_line : (line : Line) (i j m k : ℕ) (ws : List (List ℕ)) → j ≢ i → filter (stands_for i k) (things_behind line j m ws) ≡ []
words_of_other_line line i j m k [] h = refl
words_of_other_line line i j m k (w ∷ ws) h =
    let d = drawn_as line.kind (length line.words) m w in
    filter-append (stands_for i k) (thing_of d j m w) (things_behind line j (m + 1) ws)
    ∙ ap (λ t. t ++ filter (stands_for i k) (things_behind line j (m + 1) ws)) (of_other_line d i j m k w h) ∙ words_of_other_line line i j (m + 1) k ws h

words_behind : (line : Line) (i m k : ℕ) (ws : List (List ℕ)) → k < m → filter (stands_for i k) (things_behind line i m ws) ≡ []
words_behind line i m k [] h = refl
words_behind line i m k (w ∷ ws) h =
    let d = drawn_as line.kind (length line.words) m w in
    let other : m ≢ k = omega arith in
    let after : k < m + 1 = omega arith in
    filter-append (stands_for i k) (thing_of d i m w) (things_behind line i (m + 1) ws)
    ∙ ap (λ t. t ++ filter (stands_for i k) (things_behind line i (m + 1) ws)) (of_other_word d i i m k w other) ∙ words_behind line i (m + 1) k ws after

word_of_line : (line : Line) (i m n k : ℕ) (ws : List (List ℕ)) → k ≡ m + n → filter (stands_for i k) (things_behind line i m ws) ≡ thing_of_word line i k (slice_get ws n)
word_of_line line i m n k [] e = refl
word_of_line line i m zero k (w ∷ ws) e =
    let same : m ≡ k = omega arith in
    let after : k < m + 1 = omega arith in
    let P : ℕ → Type 0 = λ z. filter (stands_for i k) (thing_of (drawn_as line.kind (length line.words) z w) i z w) ≡ thing_of (drawn_as line.kind (length line.words) k w) i k w in
    let here : P m = subst P (sym same) (of_this_word (drawn_as line.kind (length line.words) k w) i k w) in
    filter-append (stands_for i k) (thing_of (drawn_as line.kind (length line.words) m w) i m w) (things_behind line i (m + 1) ws)
    ∙ ap (λ t. filter (stands_for i k) (thing_of (drawn_as line.kind (length line.words) m w) i m w) ++ t) (words_behind line i (m + 1) k ws after)
    ∙ append-nil (filter (stands_for i k) (thing_of (drawn_as line.kind (length line.words) m w) i m w)) ∙ here
word_of_line line i m (suc n) k (w ∷ ws) e =
    let d = drawn_as line.kind (length line.words) m w in
    let other : m ≢ k = omega arith in
    let next : k ≡ (m + 1) + n = omega arith in
    filter-append (stands_for i k) (thing_of d i m w) (things_behind line i (m + 1) ws)
    ∙ ap (λ t. t ++ filter (stands_for i k) (things_behind line i (m + 1) ws)) (of_other_word d i i m k w other) ∙ word_of_line line i (m + 1) n k ws next

-- the lines
lines_behind : (i j k : ℕ) (ls : List Line) → i < j → filter (stands_for i k) (things_from j ls) ≡ []
lines_behind i j k [] h = refl
lines_behind i j k (l ∷ ls) h =
    let other : j ≢ i = omega arith in
    let after : i < j + 1 = omega arith in
    filter-append (stands_for i k) (things_in j l) (things_from (j + 1) ls)
    ∙ ap (λ t. t ++ filter (stands_for i k) (things_from (j + 1) ls)) (words_of_other_line l i j 0 k l.words other) ∙ lines_behind i (j + 1) k ls after

line_of_text : (i j n k : ℕ) (ls : List Line) → i ≡ j + n → filter (stands_for i k) (things_from j ls) ≡ thing_at (slice_get ls n) i k
line_of_text i j n k [] e = refl
line_of_text i j zero k (l ∷ ls) e =
    let same : i ≡ j = omega arith in
    let after : i < j + 1 = omega arith in
    let start : k ≡ 0 + k = omega arith in
    let P : ℕ → Type 0 = λ z. filter (stands_for i k) (things_in z l) ≡ thing_of_word l i k (slice_get l.words k) in
    let here : P j = subst P same (word_of_line l i 0 k k l.words start) in
    filter-append (stands_for i k) (things_in j l) (things_from (j + 1) ls)
    ∙ ap (λ t. filter (stands_for i k) (things_in j l) ++ t) (lines_behind i (j + 1) k ls after) ∙ append-nil (filter (stands_for i k) (things_in j l)) ∙ here
line_of_text i j (suc n) k (l ∷ ls) e =
    let other : j ≢ i = omega arith in
    let next : i ≡ (j + 1) + n = omega arith in
    filter-append (stands_for i k) (things_in j l) (things_from (j + 1) ls)
    ∙ ap (λ t. t ++ filter (stands_for i k) (things_from (j + 1) ls)) (words_of_other_line l i j 0 k l.words other) ∙ line_of_text i (j + 1) n k ls next

pub stand_once : (lines : List Line) (things : List Thing) → things ≡ things_of lines → StandOnce lines things
stand_once lines things e i k =
    let start : i ≡ 0 + i = omega arith in
    ap (filter (stands_for i k)) e ∙ line_of_text i 0 i k lines start
