-- What has ended stays ended as more comes.
use Rattle.std.proofs.Common.{◌≡◌, ℕ, List, [], ◌∷◌, ◌++◌, length, length-append, drop, refl, sym, subst}
use Rattle.su_lex.specs.Pieces.{after_mark}
use Rattle.su_stream.specs.declared.fronts.Front.{Front}
use Rattle.su_stream.specs.declared.fronts.Front.TheVariants.{Mark, Other, Unknown}
use Rattle.su_stream.specs.declared.pieces.Piece.{Piece}
use Rattle.su_stream.specs.Cuts.{AreCutOff, Cuts}
use Rattle.su_stream.specs.Ended.{AreEnded}
use Rattle.su_stream.specs.inside.Fronts.{front_at}
use Rattle.su_stream.proofs.Cutting.{IsCut, input_cut, one_cut, on_to_end}
use Rattle.su_stream.proofs.Marks.{mark_drops, other_stays, mark_stays, unknown_none}

-- the input begins with these pieces
abbrev pub Begins : List ℕ → List Piece → Type 0
Begins input pieces = (rest : List ℕ) × AreCutOff (length input) (after_mark input) pieces rest

known_stay : (come more : List ℕ) (pieces : List Piece) (last : Piece) → Cuts come pieces last → after_mark (come ++ more) ≡ after_mark come ++ more → Begins (come ++ more) pieces
known_stay come more pieces last cuts same =
    let cut : IsCut (length come) (after_mark come) = input_cut come in
    let one = one_cut (length come) (after_mark come) cut.pieces cut.rest cut.last pieces cuts.rest last cut.cut_off cut.ends cuts.cut_off cuts.ends in
    let at = subst (λ (n : ℕ). AreCutOff n (after_mark come ++ more) cut.pieces (cut.rest ++ more)) (sym (length-append come more)) (cut.stays more) in
    let there = subst (λ (v : List ℕ). AreCutOff (length (come ++ more)) v cut.pieces (cut.rest ++ more)) (sym same) at in
    (cut.rest ++ more, subst (λ (v : List Piece). AreCutOff (length (come ++ more)) (after_mark (come ++ more)) v (cut.rest ++ more)) (sym one.0) there)

none_stays : (come more : List ℕ) (pieces : List Piece) (rest : List ℕ) → AreCutOff (length come) (after_mark come) pieces rest → front_at come ≡ Unknown → Begins (come ++ more) pieces
none_stays come more [] rest c e = (after_mark (come ++ more), refl)
none_stays come more (piece ∷ pieces) rest c e = absurd (unknown_none come c.0 e c.1.parts)

all_stay : (come more : List ℕ) (pieces : List Piece) (last : Piece) → Cuts come pieces last → (front : Front) → front_at come ≡ front → Begins (come ++ more) pieces
all_stay come more pieces last cuts Mark e = known_stay come more pieces last cuts (mark_stays come (drop 3 come) (mark_drops come e) more)
all_stay come more pieces last cuts Other e = known_stay come more pieces last cuts (mark_stays come come (other_stays come e) more)
all_stay come more pieces last cuts Unknown e = none_stays come more pieces cuts.rest cuts.cut_off e

pub ended_stay : (come more : List ℕ) (pieces : List Piece) (last : Piece) → Cuts come pieces last → (later : List Piece) × AreEnded (come ++ more) (pieces ++ later)
ended_stay come more pieces last cuts =
    let c = all_stay come more pieces last cuts (front_at come) refl in
    on_to_end (come ++ more) pieces c.0 c.1
