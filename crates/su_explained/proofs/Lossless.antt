-- Cutting loses nothing of a text.
use Rattle.std.proofs.Common.{◌≡◌, ℕ, Bool, true, false, cond, List, [], ◌∷◌, ◌++◌, flat_map, refl, sym, ap, ◌∙◌, append_assoc, append-nil}
use Rattle.std.specs.Prelude.{◌==◌, ◌||◌, not}
use Rattle.std.proofs.lemmas.Bool.{eqb-true}
use Rattle.std.specs.List.{join_by}
use Rattle.su_base.proofs.Items.{flat_map-push}
use Rattle.su_explained.specs.declared.pieces.Piece.{Piece}
use Rattle.su_explained.specs.declared.pieces.Cut.{Cut}
use Rattle.su_explained.specs.Pieces.{word_ended, line_ended, grown, counted, with_byte, cut_on, cut_of, nothing_cut, line_text, text_of}

abbrev blanked : List ℕ → List ℕ
blanked w = w ++ 32 ∷ []

abbrev spaced : List (List ℕ) → List ℕ
spaced ws = flat_map blanked ws

abbrev of_piece : Piece → List ℕ
of_piece p = line_text p.words

-- words with a blank between each two, one more at the end
listed-last : (v : List ℕ) (us : List (List ℕ)) (w : List ℕ) → join_by (λ x. x) (32 ∷ []) (v ∷ (us ++ w ∷ [])) ≡ spaced (v ∷ us) ++ w
listed-last v [] w =
    ap (λ t. v ++ t) (append-nil (32 ∷ w)) ∙ sym (append_assoc v (32 ∷ []) w) ∙ ap (λ t. t ++ w) (sym (append-nil (blanked v)))
listed-last v (u ∷ us) w =
    ap (λ t. v ++ 32 ∷ t) (listed-last u us w) ∙ sym (append_assoc v (32 ∷ []) (spaced (u ∷ us) ++ w)) ∙ sym (append_assoc (blanked v) (spaced (u ∷ us)) w)

-- the words of a line, one more at its end
line_text-last : (ws : List (List ℕ)) (w : List ℕ) → line_text (ws ++ w ∷ []) ≡ spaced ws ++ (w ++ 10 ∷ [])
line_text-last [] w = ap (λ t. t ++ 10 ∷ []) (append-nil w)
line_text-last (v ∷ us) w = ap (λ t. t ++ 10 ∷ []) (listed-last v us w) ∙ append_assoc (spaced (v ∷ us)) w (10 ∷ [])

module _ (c : Cut) (b : ℕ) where
  abbrev front : List ℕ
  front = flat_map of_piece c.pieces

  grown_text : text_of (grown (counted c b) b) ≡ text_of c ++ b ∷ []
  grown_text = sym (append_assoc (front ++ spaced c.words) c.word (b ∷ []))

  word_text : b ≡ 32 → text_of (word_ended (counted c b)) ≡ text_of c ++ b ∷ []
  word_text e =
      append-nil (front ++ spaced (c.words ++ c.word ∷ [])) ∙ ap (λ t. front ++ t) (flat_map-push blanked c.words c.word)
      ∙ sym (append_assoc front (spaced c.words) (blanked c.word)) ∙ sym (append_assoc (front ++ spaced c.words) c.word (32 ∷ [])) ∙ ap (λ x. text_of c ++ x ∷ []) (sym e)

  ended_text : b ≡ 10 → text_of (line_ended (counted c b)) ≡ text_of c ++ b ∷ []
  ended_text e =
      let p : Piece = record { number = c.number; words = c.words ++ c.word ∷ [] } in
      append-nil (flat_map of_piece (c.pieces ++ p ∷ []) ++ []) ∙ append-nil (flat_map of_piece (c.pieces ++ p ∷ [])) ∙ flat_map-push of_piece c.pieces p
      ∙ ap (λ t. front ++ t) (line_text-last c.words c.word) ∙ sym (append_assoc front (spaced c.words) (c.word ++ 10 ∷ [])) ∙ sym (append_assoc (front ++ spaced c.words) c.word (10 ∷ []))
      ∙ ap (λ x. text_of c ++ x ∷ []) (sym e)

  by_cases : (q y z : Bool) → (y ≡ true → b ≡ 10) → (z ≡ true → b ≡ 32)
      → text_of (cond (q || not (y || z)) (grown (counted c b) b) (cond y (line_ended (counted c b)) (word_ended (counted c b)))) ≡ text_of c ++ b ∷ []
  by_cases true y z h k = grown_text
  by_cases false true z h k = ended_text (h refl)
  by_cases false false true h k = word_text (k refl)
  by_cases false false false h k = grown_text

  pub with_byte_text : text_of (with_byte c b) ≡ text_of c ++ b ∷ []
  with_byte_text = by_cases c.quoted (b == 10) (b == 32) (eqb-true b 10) (eqb-true b 32)

pub cut_on-text : (c : Cut) (bs : List ℕ) → text_of (cut_on c bs) ≡ text_of c ++ bs
cut_on-text c [] = sym (append-nil (text_of c))
cut_on-text c (b ∷ bs) = cut_on-text (with_byte c b) bs ∙ ap (λ t. t ++ bs) (with_byte_text c b) ∙ append_assoc (text_of c) (b ∷ []) bs

-- what has been cut of a text is the text
pub cut_of-text : (text : List ℕ) (c : Cut) → c ≡ cut_of text → text_of c ≡ text
cut_of-text text c e = ap text_of e ∙ cut_on-text nothing_cut text
