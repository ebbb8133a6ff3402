-- Pieces read one after another: one more at the end, and that there is one reading.
use Rattle.std.proofs.Common.{◌≡◌, ◌⊎◌, ◌&&◌, ℕ, true, false, List, [], ◌∷◌, ◌++◌, Some, None, Result, Ok, Err, IfErr, refl, sym, ap, ◌∙◌, subst, inl, inr}
use Rattle.su_explained.specs.declared.pieces.Piece.{Piece}
use Rattle.su_explained.specs.declared.pieces.Cut.{Cut}
use Rattle.su_explained.specs.declared.states.State.{State}
use Rattle.su_explained.specs.declared.reading.Fault.{Fault}
use Rattle.su_explained.specs.declared.reading.Fault.TheVariants.{Line as AtLine, NoMemory}
use Rattle.su_explained.specs.Order.{may_end}
use Rattle.su_explained.specs.States.{at_start}
use Rattle.su_explained.specs.Pieces.{cut_of}
use Rattle.su_explained.specs.declared.reading.Line.{Line}
use Rattle.su_explained.specs.TextLines.{behind_words, IsLineOf, AreRead, is_whole_cut}
use Rattle.su_explained.specs.LineFaults.{IsLineAtFault, IsEndAtFault, IsFaultOf}
use Rattle.su_explained.specs.inside.PieceFaults.{IsFaultAmong}

module _ (p : Piece) (l : Line) (next : State) (line : IsLineOf l p.words) where
  pub are_read-one : (s : State) (ps : List Piece) (ls : List Line) (mid : State) → AreRead s ps ls mid → behind_words mid p.words ≡ Some next → AreRead s (ps ++ p ∷ []) (ls ++ l ∷ []) next
  are_read-one s [] [] mid e step = (line, (next, ap (λ z. behind_words z p.words) (sym e) ∙ step, refl))
  are_read-one s [] (m ∷ ms) mid e step = absurd e
  are_read-one s (q ∷ qs) [] mid e step = absurd e
  are_read-one s (q ∷ qs) (m ∷ ms) mid r step = (r.0, (r.1.0, r.1.1, are_read-one r.1.0 qs ms mid r.1.2 step))

-- one step leads to one state
pub one_step : (s : State) (p : Piece) (a b : State) → behind_words s p.words ≡ Some a → behind_words s p.words ≡ Some b → a ≡ b
one_step s p a b e f = cc

-- a piece that can't stand there stands in no text that is read
pub clash : (s : State) (front : List Piece) (ls : List Line) (mid : State) (p : Piece) (rest : List Piece) (ms : List Line) (end : State)
    → AreRead s front ls mid → AreRead s (front ++ p ∷ rest) ms end → behind_words mid p.words ≡ None → ⊥
clash s [] [] mid p rest [] end e r none = r
clash s [] [] mid p rest (m ∷ ms) end e r none =
    let some : behind_words mid p.words ≡ Some r.1.0 = ap (λ z. behind_words z p.words) e ∙ r.1.1 in
    cc
clash s [] (l ∷ ls) mid p rest ms end e r none = e
clash s (q ∷ qs) [] mid p rest ms end e r none = e
clash s (q ∷ qs) (l ∷ ls) mid p rest [] end e r none = r
clash s (q ∷ qs) (l ∷ ls) mid p rest (m ∷ ms) end e r none =
    let same : r.1.0 ≡ e.1.0 = one_step s q r.1.0 e.1.0 r.1.1 e.1.1 in
    let P : State → Type 0 = λ z. AreRead z (qs ++ p ∷ rest) ms end in
    clash e.1.0 qs ls mid p rest ms end e.1.2 (subst P same r.1.2) none

-- one text leads to one state
pub one_end : (s : State) (ps : List Piece) (ls ms : List Line) (a b : State) → AreRead s ps ls a → AreRead s ps ms b → a ≡ b
one_end s [] [] [] a b e f = e ∙ sym f
one_end s [] [] (m ∷ ms) a b e f = absurd f
one_end s [] (l ∷ ls) ms a b e f = absurd e
one_end s (p ∷ ps) [] ms a b e f = absurd e
one_end s (p ∷ ps) (l ∷ ls) [] a b e f = absurd f
one_end s (p ∷ ps) (l ∷ ls) (m ∷ ms) a b e f =
    let same : f.1.0 ≡ e.1.0 = one_step s p f.1.0 e.1.0 f.1.1 e.1.1 in
    let P : State → Type 0 = λ z. AreRead z ps ms b in
    one_end e.1.0 ps ls ms a b e.1.2 (subst P same f.1.2)

module _ (text : List ℕ) (cut : Cut) (e : cut ≡ cut_of text) where
  -- a line at fault: the text is no lines
  pub line_fault : (f : Fault) → IsFaultAmong cut.pieces f → IsFaultOf text f
  line_fault (AtLine n) w =
      let P : List Piece → Type 0 = λ ps. IsLineAtFault ps n in (
        inl (subst P (ap (λ z. z.pieces) e) w),
        λ lines r.
            let Q : List Piece → Type 0 = λ ps. AreRead at_start ps lines r.end in
            clash at_start w.front w.lines w.state w.piece w.rest lines r.end w.read (subst Q (ap (λ z. z.pieces) (sym e) ∙ w.are) r.read) w.fault,
      )
  line_fault NoMemory w = absurd w

  -- the text ends too soon
  pub end_fault : {T : Type 0} (r : Result T Fault) (lines : List Line) (state : State) → AreRead at_start cut.pieces lines state
      → IfErr r (λ f. (f ≡ AtLine cut.number) × ((is_whole_cut cut && may_end state.last) ≡ false)) → IfErr r (λ f. (f ≡ NoMemory) ⊎ IsFaultOf text f)
  end_fault (Ok x) lines state read w = tt
  end_fault (Err f) lines state read w =
      let P : Cut → Type 0 = λ z. IsEndAtFault z cut.number in
      let Q : List Piece → State → Type 0 = λ ps s. AreRead at_start ps lines s in
      let at_end : IsEndAtFault cut cut.number = record { lines = lines; state = state; read = read; fault = w.1; is = refl } in
      inr (subst (IsFaultOf text) (sym w.0) (
        inr (subst P e at_end),
        λ ls r.
            let R : List Piece → Type 0 = λ ps. AreRead at_start ps ls r.end in
            let same : r.end ≡ state = one_end at_start cut.pieces ls lines r.end state (subst R (ap (λ z. z.pieces) (sym e)) r.read) read in
            let good : (is_whole_cut cut && may_end state.last) ≡ true = ap (λ z. is_whole_cut cut && may_end z.last) (sym same) ∙ ap (λ z. is_whole_cut z && may_end r.end.last) e ∙ r.ends in
            let bad : true ≡ false = sym good ∙ w.1 in
            cc,
      ))
