-- What was given are the first of the pieces that have ended, whatever comes behind, and all of them where all was looked at.
use Rattle.std.proofs.Common.{◌≡◌, ℕ, Bool, true, false, List, ◌++◌, length, refl, sym, subst, ◌+◌, ap, length-append, arith, vec_len}
use Rattle.su_lex.specs.Pieces.{after_mark}
use Rattle.su_stream.specs.declared.streams.Stream.{Stream}
use Rattle.su_stream.specs.declared.pieces.Piece.{Piece}
use Rattle.su_stream.specs.Cuts.{AreCutOff}
use Rattle.su_stream.specs.Ended.{AreEnded}
use Rattle.su_stream.specs.Coming.{open_text, HasCome, HasLookedAtAll}
use Rattle.su_stream.specs.inside.Held.{Holding}
use Rattle.su_stream.proofs.Cutting.{one_cut, on_to_end}
use Rattle.su_stream.proofs.Fields.{given_all}

-- a `;` stands behind each of them
pub given_cut : (s : Stream) (come : List ℕ) (pieces : List Piece) → HasCome come pieces s → (more : List ℕ) → (rest : List ℕ) × AreCutOff (length (come ++ more)) (after_mark (come ++ more)) pieces rest
unfolding HasCome
given_cut s come pieces has more = by_begun s.begun refl
  where
    h : Holding come pieces s
    h = has

    by_begun : (v : Bool) → s.begun ≡ v → (rest : List ℕ) × AreCutOff (length (come ++ more)) (after_mark (come ++ more)) pieces rest
    by_begun true e = (open_text s ++ more, h.leads e more)
    by_begun false e =
        subst (λ (v : List Piece). (rest : List ℕ) × AreCutOff (length (come ++ more)) (after_mark (come ++ more)) v rest) (sym (h.fresh e).none) (after_mark (come ++ more), refl)

pub given_first : (s : Stream) (come : List ℕ) (pieces : List Piece) → HasCome come pieces s → (more : List ℕ) → (later : List Piece) × AreEnded (come ++ more) (pieces ++ later)
given_first s come pieces has more =
    let c = given_cut s come pieces has more in
    on_to_end (come ++ more) pieces c.0 c.1

-- what has come are the bytes before those that are held, and these
pub come_len : (s : Stream) (come : List ℕ) (pieces : List Piece) → HasCome come pieces s → length come ≡ s.base + vec_len s.held
unfolding HasCome
come_len s come pieces has =
    let h : Holding come pieces s = has in
    omega (arith, h.base_is, ap length h.come_is, length-append h.gone s.held.items, s.held.ok.0)

pub same_given : (s t : Stream) (come : List ℕ) (pieces others : List Piece) → HasCome come pieces s → HasLookedAtAll s → HasCome come others t → HasLookedAtAll t → others ≡ pieces
same_given s t come pieces others has all has' all' =
    let x = given_all s s.ordered all come pieces has in
    let y = given_all t t.ordered all' come others has' in
    (one_cut (length come) (after_mark come) pieces x.1.rest x.0 others y.1.rest y.0 x.1.cut_off x.1.ends y.1.cut_off y.1.ends).0
