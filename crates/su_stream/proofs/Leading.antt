-- An open text that ends is a piece, behind the pieces that lead to it.
use Rattle.std.proofs.Common.{◌≡◌, inl, inr, ℕ, ◌+◌, true, false, List, [], ◌∷◌, ◌++◌, length, length-append, append_assoc, append-nil, refl, ap, sym, ◌∙◌, arith, subst}
use Rattle.su_lex.specs.Blanks.{Gap}
use Rattle.su_lex.specs.Pieces.{after_mark}
use Rattle.su_stream.specs.declared.states.State.{State}
use Rattle.su_stream.specs.declared.pieces.Piece.{Piece}
use Rattle.su_stream.specs.Cuts.{IsPiece, AreCutOff, Cuts}
use Rattle.su_stream.specs.inside.Held.{Leads}
use Rattle.su_stream.specs.inside.OpenTexts.{IsAt}
use Rattle.su_stream.specs.inside.Steps.{is_whole, is_blank_piece}
use Rattle.su_stream.specs.inside.Texts.{IsText}
use Rattle.su_stream.proofs.Closing.{StopsAt, closes, blank_closes, solid_closes}

blank_where : (state : State) (text r : List ℕ) → IsAt state text → StopsAt state.mode r → Gap (text ++ r) r → is_blank_piece state ≡ true
blank_where state text r a stop gap = elim (is_blank_piece state) as (λ v. is_blank_piece state ≡ v → v ≡ true) [
  | true ↦ λ e. refl
  | false ↦ λ e. absurd (solid_closes state text r e a stop gap)
] refl

-- it is the piece from the text to what stands behind it
pub is_piece : (state : State) (text r : List ℕ) (total before : ℕ) (piece : Piece) → IsAt state text → StopsAt state.mode r → IsText state text before piece
    → before + length (text ++ r) ≡ total → IsPiece total (text ++ r) r piece
is_piece state text r total before piece a stop is whole = record {
  parts = closes state text r a stop;
  start = omega (arith, is.start, whole);
  end = omega (arith, is.end, whole, length-append text r);
  blank = (λ e. blank_closes state text r (sym is.blank ∙ e) a stop, λ gap. is.blank ∙ blank_where state text r a stop gap);
}

-- one piece more is cut off
pub cut_more : (total : ℕ) (s : List ℕ) (pieces : List Piece) (r t : List ℕ) (piece : Piece) → AreCutOff total s pieces r → IsPiece total r (59 ∷ t) piece → AreCutOff total s (pieces ++ piece ∷ []) t
cut_more total s [] r t piece e is = (t, subst (λ (v : List ℕ). IsPiece total v (59 ∷ t) piece) (sym e) is, refl)
cut_more total s (first ∷ pieces) r t piece h is = (h.0, h.1, cut_more total h.0 pieces r t piece h.2 is)

-- the first piece begins where the byte order mark ends
pub leads_first : (come rest : List ℕ) → ((more : List ℕ) → after_mark (come ++ more) ≡ rest ++ more) → Leads come [] rest
leads_first come rest same = same

-- more comes
pub leads_more : (come bytes rest : List ℕ) (pieces : List Piece) → Leads come pieces rest → Leads (come ++ bytes) pieces (rest ++ bytes)
leads_more come bytes rest pieces leads more =
    let at = subst (λ (v : List ℕ). AreCutOff (length v) (after_mark v) pieces (rest ++ (bytes ++ more))) (sym (append_assoc come bytes more)) (leads (bytes ++ more)) in
    subst (AreCutOff (length ((come ++ bytes) ++ more)) (after_mark ((come ++ bytes) ++ more)) pieces) (sym (append_assoc rest bytes more)) at

-- a piece is given
pub leads_cut : (come text rest : List ℕ) (pieces : List Piece) (state : State) (before : ℕ) (piece : Piece) → Leads come pieces (text ++ 59 ∷ rest) → IsAt state text → is_whole state ≡ true
    → IsText state text before piece → before + length (text ++ 59 ∷ rest) ≡ length come → Leads come (pieces ++ piece ∷ []) rest
leads_cut come text rest pieces state before piece leads a whole is place more =
    let same = append_assoc text (59 ∷ rest) more in
    let total = length (come ++ more) in
    let at = subst (AreCutOff total (after_mark (come ++ more)) pieces) same (leads more) in
    let here : before + length (text ++ 59 ∷ (rest ++ more)) ≡ total = omega (arith, place, length-append come more, ap length same, length-append (text ++ 59 ∷ rest) more) in
    cut_more total (after_mark (come ++ more)) pieces (text ++ 59 ∷ (rest ++ more)) (rest ++ more) piece at
    (is_piece state text (59 ∷ (rest ++ more)) total before piece a (record { ends = refl; stops = inl whole }) is here)

-- the input ends
pub leads_last : (come text : List ℕ) (pieces : List Piece) (state : State) (before : ℕ) (piece : Piece) → AreCutOff (length come) (after_mark come) pieces text → IsAt state text
    → IsText state text before piece → before + length text ≡ length come → Cuts come pieces piece
leads_last come text pieces state before piece leads a is place =
    let nil = append-nil text in
    let st = is_piece state text [] (length come) before piece a (record { ends = refl; stops = inr refl }) is (omega (arith, place, ap length nil)) in
    record { rest = text; cut_off = leads; ends = subst (λ (v : List ℕ). IsPiece (length come) v [] piece) nil st }
