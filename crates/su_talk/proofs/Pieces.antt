-- The pieces that were given are the first of what came.
use Rattle.std.proofs.Common.{◌≡◌, inl, inr, ◌≤◌, ◌-◌, ◌++◌, ◌∙◌, ℕ, Bool, true, false, List, [], ◌∷◌, refl, ap, sym, subst, append_assoc, append-nil, length-append, arith}
use Rattle.std.specs.List.{AllByRecursion}
use Rattle.su_stream.specs.declared.streams.Stream.{Stream}
use Rattle.su_stream.specs.declared.pieces.Piece.{Piece}
use Rattle.su_stream.specs.Coming.{HasCome, Holds}
use Rattle.su_stream.proofs.Given.{given_cut, come_len}
use Rattle.su_talk.specs.Statements.{Fits, AreWhole, AreFront, BeginsWith, AreFirst, statement_limit}

false≢true : false ≡ true → ⊥
false≢true e = absurd cc

-- a piece that is held lies within it
pub fits_held : (come : List ℕ) (pieces : List Piece) (s : Stream) (piece : Piece) → HasCome come pieces s → Holds s piece.span → piece.span.end - piece.span.start ≤ statement_limit → Fits come piece
fits_held come pieces s piece has holds short = record {
  ordered = holds.ordered;
  within = rw (come_len s come pieces has) holds.to;
  short = short;
}

-- those that were given are the first, whatever comes behind
pub begins_given : (come : List ℕ) (over : Bool) (pieces : List Piece) (s : Stream) → HasCome come pieces s → BeginsWith come over pieces
begins_given come over pieces s has more _ = inl (given_cut s come pieces has more)

fits_more : (come more : List ℕ) (pieces : List Piece) → AllByRecursion (Fits come) pieces → AllByRecursion (Fits (come ++ more)) pieces
fits_more come more [] fit = fit
fits_more come more (piece ∷ pieces) fit =
    (record { ordered = fit.0.ordered; within = (let l = length-append come more in omega (arith, fit.0.within, l)); short = fit.0.short }, fits_more come more pieces fit.1)

pub fits_push : (come : List ℕ) (pieces : List Piece) (piece : Piece) → AllByRecursion (Fits come) pieces → Fits come piece → AllByRecursion (Fits come) (pieces ++ piece ∷ [])
fits_push come [] piece fit one = (one, tt)
fits_push come (x ∷ pieces) piece fit one = (fit.0, fits_push come pieces piece fit.1 one)

-- more has come
pub first_more : (come more : List ℕ) (over : Bool) (pieces : List Piece) → AreFirst come false pieces → AreFirst (come ++ more) over pieces
first_more come more over pieces first = record {
  fit = fits_more come more pieces first.fit;
  front = λ others _. subst (λ (input : List ℕ). AreFront input pieces) (sym (append_assoc come more others)) (first.front (more ++ others) (λ e. absurd (false≢true e)));
}

-- all pieces of an input that is over
pub begins_whole : (come : List ℕ) (pieces : List Piece) → AreWhole come pieces → BeginsWith come true pieces
begins_whole come pieces whole more none =
    subst (λ (input : List ℕ). AreFront input pieces) (sym (append-nil come) ∙ ap (λ (l : List ℕ). come ++ l) (sym (none refl))) (inr whole)

-- so it is of what has come
pub front_now : (come : List ℕ) (over : Bool) (pieces : List Piece) → BeginsWith come over pieces → AreFront come pieces
front_now come over pieces begins = rw (append-nil come) at (begins [] (λ _. refl))
