-- The pieces that are no blanks are the statements of su_lex, and their texts stay as more comes.
use Rattle.std.proofs.Common.{◌≡◌, ◌≤◌, ℕ, ◌-◌, true, false, List, [], ◌∷◌, ◌++◌, length, map, take, drop, if◌then◌else◌, Option, Some, None, refl, ap, sym, ◌∙◌, arith, subst}
use Rattle.std.proofs.lemmas.Bool.{false≢true}
use Rattle.std.proofs.lemmas.List.{take-append-le, drop-append-le, length-drop}
use Rattle.su_lex.specs.Pieces.{Statement, added, PiecesAt, Pieces, after_mark}
use Rattle.su_lex.specs.Pieces as p
use Rattle.su_lex.specs.declared.spans.Span.{Span}
use Rattle.su_lex.proofs.Cuts.{parts_within}
use Rattle.su_stream.specs.declared.pieces.Piece.{Piece}
use Rattle.su_stream.specs.Cuts.{IsPiece, AreCutOff, Cuts}
use Rattle.su_stream.specs.Ended.{statements, text_at}

-- ---- statements

-- the span of a piece that is a statement
statement_of : Piece → Option Span
statement_of piece = if piece.blank then None else Some piece.span

is_statement : (total : ℕ) (s r : List ℕ) (piece : Piece) → IsPiece total s r piece → Statement total s r (statement_of piece)
unfolding statement_of
is_statement total s r piece is = elim piece.blank as (λ v. piece.blank ≡ v → Statement total s r (if v then None else Some piece.span)) [
  | true ↦ λ e. is.blank.0 e
  | false ↦ λ e. (λ gap. false≢true (sym e ∙ is.blank.1 gap), is.start, is.end)
] refl

first_statement : (piece : Piece) (pieces : List Piece) → statements (piece ∷ pieces) ≡ added (statement_of piece) (statements pieces)
unfolding statement_of
first_statement piece pieces = elim piece.blank as (λ v. (if v then statements pieces else piece.span ∷ statements pieces) ≡ added (if v then None else Some piece.span) (statements pieces)) [ true ↦ refl | false ↦ refl ]

pieces_at : (total : ℕ) (s : List ℕ) (pieces : List Piece) (r : List ℕ) (last : Piece) → AreCutOff total s pieces r → IsPiece total r [] last → PiecesAt total s (statements (pieces ++ last ∷ []))
pieces_at total s [] r last e is =
    subst (λ (v : List ℕ). PiecesAt total v (statements (last ∷ []))) (sym e)
    (p.last total r (statement_of last) (statements (last ∷ [])) is.parts (is_statement total r [] last is) (first_statement last []))
pieces_at total s (piece ∷ pieces) r last e is =
    p.cut total s e.0 (statement_of piece) (statements (pieces ++ last ∷ [])) (statements (piece ∷ (pieces ++ last ∷ []))) e.1.parts (is_statement total s (59 ∷ e.0) piece e.1)
    (pieces_at total e.0 pieces r last e.2 is) (first_statement piece (pieces ++ last ∷ []))

pub statements_of_cut : (input : List ℕ) (pieces : List Piece) (last : Piece) → Cuts input pieces last → Pieces input (statements (pieces ++ last ∷ []))
statements_of_cut input pieces last cut = pieces_at (length input) (after_mark input) pieces cut.rest last cut.cut_off cut.ends

-- ---- texts

pub text_stays : (come more : List ℕ) (span : Span) → span.start ≤ span.end → span.end ≤ length come → text_at (come ++ more) span ≡ text_at come span
text_stays come more span ordered within =
    ap (take (span.end - span.start)) (drop-append-le span.start come more (omega (arith, ordered, within)))
    ∙ take-append-le (span.end - span.start) (drop span.start come) more (omega (arith, ordered, within, length-drop span.start come))

one_stays : (come more : List ℕ) (piece : Piece) (pieces : List Piece) → text_at (come ++ more) piece.span ≡ text_at come piece.span
    → map (text_at (come ++ more)) (statements pieces) ≡ map (text_at come) (statements pieces)
    → map (text_at (come ++ more)) (statements (piece ∷ pieces)) ≡ map (text_at come) (statements (piece ∷ pieces))
one_stays come more piece pieces here others = elim piece.blank as (λ v. map (text_at (come ++ more)) (if v then statements pieces else piece.span ∷ statements pieces) ≡ map (text_at come) (if v then statements pieces else piece.span ∷ statements pieces)) [
  | true ↦ others
  | false ↦ ap (λ v. v ∷ map (text_at (come ++ more)) (statements pieces)) here ∙ ap (λ v. text_at come piece.span ∷ v) others
]

texts_at : (come more s : List ℕ) (pieces : List Piece) (r : List ℕ) → AreCutOff (length come) s pieces r → map (text_at (come ++ more)) (statements pieces) ≡ map (text_at come) (statements pieces)
texts_at come more s [] r e = refl
texts_at come more s (piece ∷ pieces) r e =
    let is = e.1 in
    let here = text_stays come more piece.span (omega (arith, is.start, is.end, parts_within s (59 ∷ e.0) is.parts)) (omega (arith, is.end)) in
    one_stays come more piece pieces here (texts_at come more e.0 pieces r e.2)

pub texts_stay : (come more : List ℕ) (pieces : List Piece) (last : Piece) → Cuts come pieces last → map (text_at (come ++ more)) (statements pieces) ≡ map (text_at come) (statements pieces)
texts_stay come more pieces last cut = texts_at come more (after_mark come) pieces cut.rest cut.cut_off
