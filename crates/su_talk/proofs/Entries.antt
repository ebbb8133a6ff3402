-- One entry more.
use Rattle.std.proofs.Common.{◌≡◌, ◌≤◌, ◌-◌, ◌++◌, ◌||◌, ◌&&◌, ◌∙◌, ℕ, Bool, List, [], ◌∷◌, Option, length, length-drop, take, drop, refl, ap, sym, subst, append_assoc, append-nil, arith}
use Rattle.std.specs.List.{AllByRecursion}
use Rattle.std.proofs.Math.Seq.{take-append-le, drop-append-le}
use Rattle.su_io.specs.declared.files.File.{File}
use Rattle.su_stream.specs.declared.pieces.Piece.{Piece}
use Rattle.su_stream.specs.Ended.{text_at}
use Rattle.su_state.specs.DatabaseValue.{DatabaseValue}
use Rattle.su_talk.specs.Answers.{AnswersOne, AnswersEntry, Answered, IsPlaced}
use Rattle.su_talk.specs.inside.Turns.{answered_after}
use Rattle.su_talk.specs.Entries.{Entry, piece_of, pieces_of, after, refuses, some_refuses, text_of, texts_from}
use Rattle.su_talk.specs.Entries.Entry.{Answer, Blank}
use Rattle.su_talk.specs.Statements.{Fits}
use Rattle.su_talk.proofs.Events.{or-assoc, or-false}

pub pieces_of-push : (es : List Entry) (e : Entry) → pieces_of (es ++ e ∷ []) ≡ pieces_of es ++ piece_of e ∷ []
pieces_of-push [] e = refl
pieces_of-push (x ∷ es) e = ap (λ (l : List Piece). piece_of x ∷ l) (pieces_of-push es e)

pub answered_after-push : (k : ℕ) (es : List Entry) (e : Entry) → answered_after k (es ++ e ∷ []) ≡ after (answered_after k es) e
answered_after-push k [] e = refl
answered_after-push k (x ∷ es) e = answered_after-push (after k x) es e

pub some_refuses-push : (es : List Entry) (e : Entry) → some_refuses (es ++ e ∷ []) ≡ (some_refuses es || refuses e)
some_refuses-push [] e = or-false (refuses e)
some_refuses-push (x ∷ es) e = ap (λ (b : Bool). refuses x || b) (some_refuses-push es e) ∙ or-assoc (refuses x) (some_refuses es) (refuses e)

pub texts_from-push : (frames : Bool) (k : ℕ) (es : List Entry) (e : Entry) → texts_from frames k (es ++ e ∷ []) ≡ texts_from frames k es ++ text_of frames (answered_after k es) e
texts_from-push frames k [] e = append-nil (text_of frames k e)
texts_from-push frames k (x ∷ es) e =
    ap (λ (l : List ℕ). text_of frames k x ++ l) (texts_from-push frames (after k x) es e)
    ∙ sym (append_assoc (text_of frames k x) (texts_from frames (after k x) es) (text_of frames (answered_after (after k x) es) e))

pub Answered-push : (frames : Bool) (files : Option (List File)) (come : List ℕ) (es : List Entry) (e : Entry) (old mid new : DatabaseValue)
    → Answered frames files come old es mid → AnswersEntry frames files come mid e new → Answered frames files come old (es ++ e ∷ []) new
Answered-push frames files come [] e old mid new same one = (new, subst (λ (db : DatabaseValue). AnswersEntry frames files come db e new) same one, refl)
Answered-push frames files come (x ∷ es) e old mid new (next, first, later) one = (next, first, Answered-push frames files come es e next mid new later one)

-- what has come stands where it stood
pub text_at-more : (come more : List ℕ) (piece : Piece) → Fits come piece → text_at (come ++ more) piece.span ≡ text_at come piece.span
text_at-more come more piece fits =
    let n = piece.span.end - piece.span.start in
    let behind : n ≤ length (drop piece.span.start come) = omega (arith, fits.ordered, fits.within, length-drop piece.span.start come) in
    ap (take n) (drop-append-le piece.span.start come more (omega (arith, fits.ordered, fits.within))) ∙ take-append-le n (drop piece.span.start come) more behind

AnswersEntry-more : (frames : Bool) (files : Option (List File)) (come more : List ℕ) (e : Entry) (old new : DatabaseValue) → Fits come (piece_of e)
    → AnswersEntry frames files come old e new → AnswersEntry frames files (come ++ more) old e new
AnswersEntry-more frames files come more (Answer span reply found) old new fits (kept, one, placed) =
    let same = sym (text_at-more come more (piece_of (Answer span reply found)) fits) in
    (kept, subst (λ (text : List ℕ). AnswersOne files old text reply new) same one, subst (λ (text : List ℕ). IsPlaced (frames && reply.refused) text found) same placed)
AnswersEntry-more frames files come more (Blank span) old new fits same = same

pub Answered-more : (frames : Bool) (files : Option (List File)) (come more : List ℕ) (es : List Entry) (old new : DatabaseValue) → AllByRecursion (Fits come) (pieces_of es)
    → Answered frames files come old es new → Answered frames files (come ++ more) old es new
Answered-more frames files come more [] old new fit same = same
Answered-more frames files come more (e ∷ es) old new fit (next, first, later) =
    (next, AnswersEntry-more frames files come more e old next fit.0 first, Answered-more frames files come more es next new fit.1 later)
