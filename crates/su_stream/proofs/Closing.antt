-- An open text that ends is a piece.
use Rattle.std.proofs.Common.{◌≡◌, ◌⊎◌, inl, inr, ℕ, Bool, true, false, not, ◌&&◌, ◌==◌, List, [], ◌∷◌, ◌++◌, append-nil, refl, ap, sym, ◌∙◌, arith}
use Rattle.std.proofs.lemmas.Bool.{false≢true}
use Rattle.std.proofs.lemmas.Bool.Decides.{nat_tests}
use Rattle.su_lex.specs.Blanks.{begins, begins_comment, is_space, IsRun, Comment, Gap}
use Rattle.su_lex.specs.Blanks as b
use Rattle.su_lex.specs.Pieces.{has_no_quote, Parts}
use Rattle.su_lex.specs.Pieces as p
use Rattle.su_lex.proofs.Gaps.{IsSolid, gap_trans}
use Rattle.su_lex.proofs.Cuts.{parts_trans}
use Rattle.su_stream.specs.declared.states.Mode.{Mode}
use Rattle.su_stream.specs.declared.states.Mode.TheVariants.{Plain, Dash, Quoted, Comment as InComment}
use Rattle.su_stream.specs.declared.states.State.{State}
use Rattle.su_stream.specs.inside.OpenTexts.{has_no_feed, IsTail, Ends, IsAt}
use Rattle.su_stream.specs.inside.Steps.{is_whole_mode, is_blank_mode, is_blank_piece, state_of}
use Rattle.su_stream.proofs.Steps.{solid_ends}

-- what stands behind a piece of this mode: a `;` where it ends one, or nothing
pub record StopsAt (mode : Mode) (r : List ℕ) : Type 0 where
  pub ends : Ends r
  pub stops : (is_whole_mode mode ≡ true) ⊎ (r ≡ [])

no_minus : (r : List ℕ) → Ends r → begins (λ c. c == 45) r ≡ false
no_minus [] e = refl
no_minus (x ∷ r) e = let h : x ≡ 59 = grind (arith, nat_tests, e) in rw h refl

at_end : (mode : Mode) (r : List ℕ) → is_whole_mode mode ≡ false → StopsAt mode r → r ≡ []
at_end mode r part stop = elim stop.stops [
  | inl whole ↦ absurd (false≢true (sym part ∙ whole))
  | inr nil ↦ nil
]

-- ---- the part that isn't whole

line_ends : (line : List ℕ) → has_no_feed line ≡ true → Comment (45 ∷ 45 ∷ (line ++ [])) []
line_ends line plain = (line, refl, record { passes = plain; ends = refl })

tail_parts : (mode : Mode) (tail r : List ℕ) → IsTail mode tail → StopsAt mode r → Parts (tail ++ r) r
tail_parts Plain tail r is stop = p.none (tail ++ r) r (ap (λ v. v ++ r) is)
tail_parts Dash tail r is stop =
    rw is (p.more (45 ∷ r) r r (p.byte 45 (45 ∷ r) r refl refl (no_minus r stop.ends)) (p.none r r refl))
tail_parts Quoted tail r is stop =
    let nil = at_end Quoted r refl stop in
    rw (nil, is.1) (p.more (39 ∷ (is.0 ++ [])) [] [] (p.unclosed is.0 (39 ∷ (is.0 ++ [])) [] (ap (λ v. 39 ∷ v) (append-nil is.0)) is.2 refl) (p.none [] [] refl))
tail_parts InComment tail r is stop =
    let nil = at_end InComment r refl stop in
    rw (nil, is.1) (p.more (45 ∷ 45 ∷ (is.0 ++ [])) [] [] (p.comment (45 ∷ 45 ∷ (is.0 ++ [])) [] (line_ends is.0 is.2)) (p.none [] [] refl))

tail_gap : (mode : Mode) (tail r : List ℕ) → is_blank_mode mode ≡ true → IsTail mode tail → StopsAt mode r → Gap (tail ++ r) r
tail_gap Plain tail r blank is stop = b.none (tail ++ r) r (ap (λ v. v ++ r) is)
tail_gap Dash tail r blank is stop = absurd (false≢true blank)
tail_gap Quoted tail r blank is stop = absurd (false≢true blank)
tail_gap InComment tail r blank is stop =
    let nil = at_end InComment r refl stop in
    rw (nil, is.1) (b.comment (45 ∷ 45 ∷ (is.0 ++ [])) [] [] (line_ends is.0 is.2) (b.none [] [] refl))

record Solid (s : List ℕ) : Type 0 where
  solid : IsSolid s
  more : begins (λ b. not (b == 59)) s ≡ true

tail_solid : (mode : Mode) (tail r : List ℕ) → is_blank_mode mode ≡ false → IsTail mode tail → StopsAt mode r → Solid (tail ++ r)
tail_solid Plain tail r blank is stop = absurd (false≢true (sym blank))
tail_solid Dash tail r blank is stop = rw is (record { solid = record { no_space = refl; no_comment = no_minus r stop.ends }; more = refl })
tail_solid Quoted tail r blank is stop = rw (is.1) (record { solid = record { no_space = refl; no_comment = refl }; more = refl })
tail_solid InComment tail r blank is stop = absurd (false≢true (sym blank))

-- ---- the whole text

pub closes : (state : State) (text r : List ℕ) → IsAt state text → StopsAt state.mode r → Parts (text ++ r) r
closes state text r a stop = parts_trans (text ++ r) (a.tail ++ r) r (a.parts r) (tail_parts state.mode a.tail r a.tail_is stop)

blank_in : (blank : Bool) (mode : Mode) (text r : List ℕ) → (blank && is_blank_mode mode) ≡ true → IsAt (state_of mode blank) text → StopsAt mode r → Gap (text ++ r) r
blank_in true mode text r e a stop = gap_trans (text ++ r) (a.tail ++ r) r (a.blankness r) (tail_gap mode a.tail r e a.tail_is stop)
blank_in false mode text r e a stop = absurd (false≢true e)

solid_in : (blank : Bool) (mode : Mode) (text r : List ℕ) → (blank && is_blank_mode mode) ≡ false → IsAt (state_of mode blank) text → StopsAt mode r → ¬ (Gap (text ++ r) r)
solid_in true mode text r e a stop =
    let s = tail_solid mode a.tail r e a.tail_is stop in
    solid_ends (text ++ r) (a.tail ++ r) r (a.blankness r) s.solid s.more stop.ends
solid_in false mode text r e a stop = a.blankness r r stop.ends

pub blank_closes : (state : State) (text r : List ℕ) → is_blank_piece state ≡ true → IsAt state text → StopsAt state.mode r → Gap (text ++ r) r
blank_closes state text r e a stop = blank_in state.blank state.mode text r e a stop

pub solid_closes : (state : State) (text r : List ℕ) → is_blank_piece state ≡ false → IsAt state text → StopsAt state.mode r → ¬ (Gap (text ++ r) r)
solid_closes state text r e a stop = solid_in state.blank state.mode text r e a stop
