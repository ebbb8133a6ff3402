-- Lines of closed words are cut into these.
-- The idea: a closed word is taken whole, whatever has been cut before; then its blank or line feed ends it.
use Rattle.std.proofs.Common.{◌≡◌, ℕ, ◌+◌, Bool, true, false, cond, List, [], ◌∷◌, ◌++◌, flat_map, map, refl, sym, ap, ◌∙◌, subst, append_assoc, append-nil}
use Rattle.std.specs.Prelude.{◌==◌, ◌||◌, not}
use Rattle.std.specs.List.{list_all}
use Rattle.std.proofs.lemmas.Bool.{and_parts}
use Rattle.su_explained.specs.declared.pieces.Piece.{Piece}
use Rattle.su_explained.specs.declared.pieces.Cut.{Cut}
use Rattle.su_explained.specs.Pieces.{word_ended, line_ended, grown, counted, cut_on, line_text}
use Rattle.su_explained.specs.TextLines.{is_whole_cut}
use Rattle.su_readback.specs.Words.{is_closed, are_closed, lines_text, TextsAreCut}

abbrev cut_at : List Piece → ℕ → List (List ℕ) → List ℕ → ℕ → Bool → Cut
cut_at p n ws w x q = record { pieces = p; number = n; words = ws; word = w; next = x; quoted = q }

-- the number of the next line behind these bytes
abbrev next_behind : ℕ → List ℕ → ℕ
next_behind x [] = x
next_behind x (b ∷ bs) = next_behind (cond (b == 10) (x + 1) x) bs

word_cut : (p : List Piece) (n : ℕ) (ws : List (List ℕ)) (w : List ℕ) (x : ℕ) (q : Bool) (v rest : List ℕ) → is_closed q v ≡ true → cut_on (cut_at p n ws w x q) (v ++ rest) ≡ cut_on (cut_at p n ws (w ++ v) (next_behind x v) false) rest
word_cut p n ws w x true [] rest h = absurd (let e : false ≡ true = h in cc)
word_cut p n ws w x false [] rest h = ap (λ z. cut_on (cut_at p n ws z x false) rest) (sym (append-nil w))
word_cut p n ws w x q (b ∷ bs) rest h =
    let stays : Bool = q || not (b == 10 || b == 32) in
    let parts = and_parts stays (is_closed (cond (b == 39) (not q) q) bs) h in
    let c : Cut = counted (cut_at p n ws w x q) b in
    ap (λ t. cut_on (cond t (grown c b) (cond (b == 10) (line_ended c) (word_ended c))) (bs ++ rest)) parts.0
    ∙ word_cut p n ws (w ++ b ∷ []) (cond (b == 10) (x + 1) x) (cond (b == 39) (not q) q) bs rest parts.1
    ∙ ap (λ z. cut_on (cut_at p n ws z (next_behind (cond (b == 10) (x + 1) x) bs) false) rest) (append_assoc w (b ∷ []) bs)

abbrev behind_blanks : List (List ℕ) → List ℕ
behind_blanks ws = flat_map (λ w. (32 ∷ []) ++ w) ws

moved : (v f rest : List ℕ) → ((v ++ f) ++ 10 ∷ []) ++ rest ≡ v ++ ((f ++ 10 ∷ []) ++ rest)
moved v f rest = ap (λ t. t ++ rest) (append_assoc v f (10 ∷ [])) ∙ append_assoc v (f ++ 10 ∷ []) rest

-- one line more is cut, and the next one has this number
abbrev IsCutOff : List Piece → ℕ → List (List ℕ) → Cut → List ℕ → List ℕ → Type 0
IsCutOff p n ws c text rest = (m : ℕ) × (cut_on c text ≡ cut_on (cut_at (p ++ record { number = n; words = ws } ∷ []) m [] [] m false) rest)

tail_cut : (p : List Piece) (n : ℕ) (ws : List (List ℕ)) (w : List ℕ) (x : ℕ) (vs : List (List ℕ)) (rest : List ℕ) → list_all (is_closed false) vs ≡ true
    → IsCutOff p n (ws ++ w ∷ vs) (cut_at p n ws w x false) ((behind_blanks vs ++ 10 ∷ []) ++ rest) rest
tail_cut p n ws w x [] rest h = (x + 1, refl)
tail_cut p n ws w x (v ∷ vs) rest h =
    let parts = and_parts (is_closed false v) (list_all (is_closed false) vs) h in
    let words : List (List ℕ) = ws ++ w ∷ [] in
    let r = tail_cut p n words v (next_behind x v) vs rest parts.1 in (
      r.0,
      ap (cut_on (cut_at p n words [] x false)) (moved v (behind_blanks vs) rest) ∙ word_cut p n words [] x false v ((behind_blanks vs ++ 10 ∷ []) ++ rest) parts.0 ∙ r.1
          ∙ ap (λ z. cut_on (cut_at (p ++ record { number = n; words = z } ∷ []) r.0 [] [] r.0 false) rest) (append_assoc ws (w ∷ []) (v ∷ vs)),
    )

line_cut : (p : List Piece) (n : ℕ) (v : List ℕ) (vs : List (List ℕ)) (rest : List ℕ) → are_closed (v ∷ vs) ≡ true → IsCutOff p n (v ∷ vs) (cut_at p n [] [] n false) (line_text (v ∷ vs) ++ rest) rest
line_cut p n v vs rest h =
    let parts = and_parts (is_closed false v) (list_all (is_closed false) vs) h in
    let r = tail_cut p n [] v (next_behind n v) vs rest parts.1 in
    (r.0, ap (cut_on (cut_at p n [] [] n false)) (moved v (behind_blanks vs) rest) ∙ word_cut p n [] [] n false v ((behind_blanks vs ++ 10 ∷ []) ++ rest) parts.0 ∙ r.1)

abbrev words_in : List Piece → List (List (List ℕ))
words_in pieces = map (λ (p : Piece). p.words) pieces

words_in-push : (p : List Piece) (last : Piece) → words_in (p ++ last ∷ []) ≡ words_in p ++ last.words ∷ []
words_in-push [] last = refl
words_in-push (x ∷ xs) last = ap (λ t. x.words ∷ t) (words_in-push xs last)

-- all lines are cut off, and nothing is left
record AreCut (p : List Piece) (lines : List (List (List ℕ))) (c : Cut) : Type 0 where
  words : words_in c.pieces ≡ words_in p ++ lines
  whole : is_whole_cut c ≡ true

lines_cut : (p : List Piece) (n : ℕ) (lines : List (List (List ℕ))) → list_all are_closed lines ≡ true → AreCut p lines (cut_on (cut_at p n [] [] n false) (lines_text lines))
lines_cut p n [] h = record { words = sym (append-nil (words_in p)); whole = refl }
lines_cut p n ([] ∷ ls) h = absurd (let e : false ≡ true = h in cc)
lines_cut p n ((v ∷ vs) ∷ ls) h =
    let parts = and_parts (are_closed (v ∷ vs)) (list_all are_closed ls) h in
    let one = line_cut p n v vs (lines_text ls) parts.0 in
    let last : Piece = record { number = n; words = v ∷ vs } in
    let rest = lines_cut (p ++ last ∷ []) one.0 ls parts.1 in
    let all : words_in (p ++ last ∷ []) ++ ls ≡ words_in p ++ (v ∷ vs) ∷ ls = ap (λ t. t ++ ls) (words_in-push p last) ∙ append_assoc (words_in p) ((v ∷ vs) ∷ []) ls in
    let is : AreCut p ((v ∷ vs) ∷ ls) (cut_on (cut_at (p ++ last ∷ []) one.0 [] [] one.0 false) (lines_text ls)) = record { words = rest.words ∙ all; whole = rest.whole } in
    subst (AreCut p ((v ∷ vs) ∷ ls)) (sym one.1) is

pub texts_cut : TextsAreCut
texts_cut lines h = let c = lines_cut [] 1 lines h in (c.words, c.whole)
