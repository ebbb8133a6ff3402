-- An input is cut in one way, and there is one.
use Rattle.std.proofs.Common.{◌≡◌, ◌≤◌, inl, inr, ℕ, ◌+◌, ◌-◌, Bool, true, false, List, [], ◌∷◌, ◌++◌, length, length-append, append_assoc, drop, cond, refl, ap, sym, ◌∙◌, arith, subst}
use Rattle.std.specs.Prelude.{nat_eq}
use Rattle.std.specs.List.{starts_with}
use Rattle.std.proofs.lemmas.List.{length-drop}
use Rattle.su_lex.specs.Pieces.{mark, after_mark}
use Rattle.su_lex.proofs.Cuts.{parts_same, parts_within}
use Rattle.su_stream.specs.declared.states.Mode.TheVariants.{Plain}
use Rattle.su_stream.specs.declared.states.State.{State}
use Rattle.su_stream.specs.declared.pieces.Piece.{Piece}
use Rattle.su_stream.specs.Cuts.{IsPiece, AreCutOff}
use Rattle.su_stream.specs.Ended.{AreEnded}
use Rattle.su_stream.specs.inside.OpenTexts.{Ends, IsAt}
use Rattle.su_stream.specs.inside.Steps.{state_of, after_byte, ends_at, is_blank_piece}
use Rattle.su_stream.specs.inside.Texts.{IsText}
use Rattle.su_stream.proofs.Steps.{one_step, ends_is, start_at}
use Rattle.su_stream.proofs.Leading.{is_piece}

-- ---- one way

same_bool : (a b : Bool) → (a ≡ true → b ≡ true) → (b ≡ true → a ≡ true) → a ≡ b
same_bool true b there back = sym (there refl)
same_bool false true there back = back refl
same_bool false false there back = refl

same_piece : (x y : Piece) → x.span.start ≡ y.span.start → x.span.end ≡ y.span.end → x.blank ≡ y.blank → x ≡ y
same_piece x y start end blank i = record { span = record { start = start i; end = end i }; blank = blank i }

-- one piece ends at one place
pub one_end : (total : ℕ) (s r t : List ℕ) (x y : Piece) → IsPiece total s r x → Ends r → IsPiece total s t y → Ends t → r ≡ t
one_end total s r t x y is ends other ends' = parts_same s r t is.parts ends other.parts ends'

pub one_piece : (total : ℕ) (s r : List ℕ) (x y : Piece) → IsPiece total s r x → IsPiece total s r y → x ≡ y
one_piece total s r x y is other =
    same_piece x y (omega (arith, is.start, other.start)) (omega (arith, is.end, other.end))
    (same_bool x.blank y.blank (λ e. other.blank.1 (is.blank.0 e)) (λ e. is.blank.1 (other.blank.0 e)))

no_end_at_cut : (total : ℕ) (s t : List ℕ) (x y : Piece) → IsPiece total s [] x → IsPiece total s (59 ∷ t) y → ⊥
no_end_at_cut total s t x y is other = let h : [] ≡ 59 ∷ t = one_end total s [] (59 ∷ t) x y is refl other refl in absurd (cc)

pub one_cut : (total : ℕ) (s : List ℕ) (pieces : List Piece) (r : List ℕ) (last : Piece) (others : List Piece) (t : List ℕ) (end : Piece)
    → AreCutOff total s pieces r → IsPiece total r [] last → AreCutOff total s others t → IsPiece total t [] end → (others ≡ pieces) × (end ≡ last)
one_cut total s [] r last [] t end e is f other =
    (refl, one_piece total s [] end last (subst (λ (v : List ℕ). IsPiece total v [] end) (sym f) other) (subst (λ (v : List ℕ). IsPiece total v [] last) (sym e) is))
one_cut total s [] r last (y ∷ others) t end e is f other =
    absurd (no_end_at_cut total s f.0 last y (subst (λ (v : List ℕ). IsPiece total v [] last) (sym e) is) f.1)
one_cut total s (x ∷ pieces) r last [] t end e is f other =
    absurd (no_end_at_cut total s e.0 end x (subst (λ (v : List ℕ). IsPiece total v [] end) (sym f) other) e.1)
one_cut total s (x ∷ pieces) r last (y ∷ others) t end e is f other =
    let h : 59 ∷ f.0 ≡ 59 ∷ e.0 = one_end total s (59 ∷ f.0) (59 ∷ e.0) y x f.1 refl e.1 refl in
    let same : f.0 ≡ e.0 = cc in
    let first : y ≡ x = one_piece total s (59 ∷ e.0) y x (subst (λ (v : List ℕ). IsPiece total s v y) h f.1) e.1 in
    let rest = one_cut total e.0 pieces r last others t end e.2 is (subst (λ (v : List ℕ). AreCutOff total v others t) same f.2) other in
    (ap (λ v. v ∷ others) first ∙ ap (λ v. x ∷ v) rest.0, rest.1)

-- pieces, and then others
pub cut_on : (total : ℕ) (s : List ℕ) (pieces : List Piece) (r : List ℕ) (others : List Piece) (t : List ℕ) → AreCutOff total s pieces r → AreCutOff total r others t → AreCutOff total s (pieces ++ others) t
cut_on total s [] r others t e f = subst (λ (v : List ℕ). AreCutOff total v others t) (sym e) f
cut_on total s (x ∷ pieces) r others t e f = (e.0, e.1, cut_on total e.0 pieces r others t e.2 f)

pub cut_within : (total : ℕ) (s : List ℕ) (pieces : List Piece) (r : List ℕ) → AreCutOff total s pieces r → length r ≤ length s
cut_within total s [] r e = omega (arith, ap length e)
cut_within total s (x ∷ pieces) r e = omega (arith, cut_within total e.0 pieces r e.2, parts_within s (59 ∷ e.0) e.1.parts)

-- the first of them are cut off too
pub front_cut : (total : ℕ) (s : List ℕ) (pieces later : List Piece) (r : List ℕ) → AreCutOff total s (pieces ++ later) r → (t : List ℕ) × AreCutOff total s pieces t
front_cut total s [] later r e = (s, refl)
front_cut total s (x ∷ pieces) later r e = let h = front_cut total e.0 pieces later r e.2 in (h.0, (e.0, e.1, h.1))

-- ---- a way

-- s is cut, and its pieces that have ended are the same as more comes
pub record IsCut (total : ℕ) (s : List ℕ) : Type 0 where
  pub pieces : List Piece
  pub rest : List ℕ
  pub last : Piece
  pub cut_off : AreCutOff total s pieces rest
  pub ends : IsPiece total rest [] last
  pub stays : (more : List ℕ) → AreCutOff (total + length more) (s ++ more) pieces (rest ++ more)

piece_of : State → List ℕ → ℕ → Piece
piece_of state text before = record { span = record { start = before; end = before + length text }; blank = is_blank_piece state }

text_of : (state : State) (text : List ℕ) (before : ℕ) → IsText state text before (piece_of state text before)
unfolding piece_of
text_of state text before = record { start = refl; end = refl; blank = refl }

pub rest_cut : (total before : ℕ) (rest text : List ℕ) (state : State) → IsAt state text → before + length (text ++ rest) ≡ total → IsCut total (text ++ rest)
rest_cut total before [] text state a whole = record {
  pieces = [];
  rest = text ++ [];
  last = piece_of state text before;
  cut_off = refl;
  ends = is_piece state text [] total before (piece_of state text before) a (record { ends = refl; stops = inr refl }) (text_of state text before) whole;
  stays = λ more. refl;
}
rest_cut total before (x ∷ rest) text state a whole = elim (ends_at state x) as (λ v. ends_at state x ≡ v → IsCut total (text ++ x ∷ rest)) [
  | true ↦ λ e.
      let at = ends_is state x e in
      let cut : IsCut total rest = rest_cut total ((before + length text) + 1) rest [] (state_of Plain true) start_at (omega (arith, whole, length-append text (x ∷ rest))) in
      let piece = piece_of state text before in
      let here : (total' : ℕ) (r : List ℕ) → before + (length text + (1 + length r)) ≡ total' → IsPiece total' (text ++ x ∷ r) (59 ∷ r) piece = λ total' r same.
      subst (λ (v : ℕ). IsPiece total' (text ++ v ∷ r) (59 ∷ r) piece) (sym at.0)
      (is_piece state text (59 ∷ r) total' before piece a (record { ends = refl; stops = inl at.1 }) (text_of state text before) (omega (arith, same, length-append text (59 ∷ r)))) in
      record {
        pieces = piece ∷ cut.pieces;
        rest = cut.rest;
        last = cut.last;
        cut_off = (rest, here total rest (omega (arith, whole, length-append text (x ∷ rest))), cut.cut_off);
        ends = cut.ends;
        stays = λ more.
            let longer = here (total + length more) (rest ++ more) (omega (arith, whole, length-append text (x ∷ rest), length-append rest more)) in
            (rest ++ more, subst (λ (v : List ℕ). IsPiece (total + length more) v (59 ∷ (rest ++ more)) piece) (sym (append_assoc text (x ∷ rest) more)) longer, cut.stays more);
      }
  | false ↦ λ e.
      let same = append_assoc text (x ∷ []) rest in
      subst (IsCut total) same (rest_cut total before rest (text ++ x ∷ []) (after_byte state x) (one_step state text x e a) (omega (arith, whole, ap length same)))
] refl

mark_or_not : (file : List ℕ) (P : List ℕ → Type 0) → P (drop 3 file) → P file → P (after_mark file)
mark_or_not file P a b = elim (starts_with nat_eq file mark) as (λ v. P (cond v (drop 3 file) file)) [ true ↦ a | false ↦ b ]

pub no_longer : (file : List ℕ) → length (after_mark file) ≤ length file
no_longer file = mark_or_not file (λ v. length v ≤ length file) (omega (arith, length-drop 3 file)) (omega arith)

pub input_cut : (input : List ℕ) → IsCut (length input) (after_mark input)
input_cut input = rest_cut (length input) (length input - length (after_mark input)) (after_mark input) [] (state_of Plain true) start_at (omega (arith, no_longer input))

-- the pieces that are cut off go on to the end
pub on_to_end : (input : List ℕ) (pieces : List Piece) (rest : List ℕ) → AreCutOff (length input) (after_mark input) pieces rest → (later : List Piece) × AreEnded input (pieces ++ later)
on_to_end input pieces rest c =
    let total = length input in
    let within : length rest ≤ total = omega (arith, cut_within total (after_mark input) pieces rest c, no_longer input) in
    let cut : IsCut total rest = rest_cut total (total - length rest) rest [] (state_of Plain true) start_at (omega (arith, within)) in
    let all = cut_on total (after_mark input) pieces rest cut.pieces cut.rest c cut.cut_off in
    (cut.pieces, (cut.last, record { rest = cut.rest; cut_off = all; ends = cut.ends }))
