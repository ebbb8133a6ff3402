-- A text is read as one list of lines.
-- The idea: the words of a piece tell the line's kind, and both tell what is known behind it.
use Rattle.std.proofs.Common.{◌≡◌, ℕ, List, [], ◌∷◌, Some, refl, sym, ap, ◌∙◌, subst}
use Rattle.su_explained.specs.declared.kinds.Kind.{Kind}
use Rattle.su_explained.specs.declared.pieces.Piece.{Piece}
use Rattle.su_explained.specs.declared.states.State.{State}
use Rattle.su_explained.specs.declared.reading.Line.{Line}
use Rattle.su_explained.specs.TextLines.{AreRead}
use Rattle.su_explained.specs.States.{at_start}
use Rattle.su_explained.specs.Pieces.{cut_of}
use Rattle.su_readback.specs.SchemasRead.{OneListOfLines}

abbrev line_with : Kind → List (List ℕ) → Line
line_with kind words = record { kind = kind; words = words }

same_some : {A : Type 0} (x y : A) → Some x ≡ Some y → x ≡ y
same_some x y e = cc

same_line : (k l : Line) → k.kind ≡ l.kind → k.words ≡ l.words → k ≡ l
same_line k l e f = ap (λ kind. line_with kind k.words) e ∙ ap (line_with l.kind) f

one_reading : (s end last : State) (pieces : List Piece) (ks ls : List Line) → AreRead s pieces ks end → AreRead s pieces ls last → ks ≡ ls
one_reading s end last [] [] [] h k = refl
one_reading s end last [] [] (l ∷ ls) h k = absurd k
one_reading s end last [] (x ∷ ks) ls h k = absurd h
one_reading s end last (p ∷ ps) [] ls h k = absurd h
one_reading s end last (p ∷ ps) (x ∷ ks) [] h k = absurd k
one_reading s end last (p ∷ ps) (x ∷ ks) (l ∷ ls) h k =
    let kinds : x.kind ≡ l.kind = same_some x.kind l.kind (sym h.0.1 ∙ k.0.1) in
    let states : h.1.0 ≡ k.1.0 = same_some h.1.0 k.1.0 (sym h.1.1 ∙ k.1.1) in
    let rest = one_reading k.1.0 end last ps ks ls (subst (λ (t : State). AreRead t ps ks end) states h.1.2) k.1.2 in
    ap (λ t. t ∷ ks) (same_line x l kinds (h.0.0 ∙ sym k.0.0)) ∙ ap (λ t. l ∷ t) rest

pub one_list : OneListOfLines
one_list text lines others h k = one_reading at_start h.end k.end (cut_of text).pieces lines others h.read k.read
