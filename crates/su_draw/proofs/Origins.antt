-- Which word a thing comes from, and what a row's number, its symbols and arrows come from.
-- The idea: each thing is among those that stand for its word, and these are the one of the text.
use Rattle.std.proofs.Common.{◌≡◌, ℕ, true, List, Option, Some, None, length, slice_get, refl, sym, ap, ◌∙◌, subst}
use Rattle.std.specs.Prelude.{◌==◌, ◌&&◌, Contains}
use Rattle.std.proofs.lemmas.Bool.{eq-eqb}
use Rattle.su_base.proofs.Items.{Contains-nil, Contains-one, Contains-filter}
use Rattle.su_draw.specs.declared.things.What.{What}
use Rattle.su_draw.specs.declared.things.Thing.{Thing}
use Rattle.su_explained.specs.declared.reading.Line.{Line}
use Rattle.su_draw.specs.Things.{text_shown, thing_of}
use Rattle.su_draw.specs.Drawn.{drawn_as}
use Rattle.su_draw.specs.Once.{stands_for, thing_of_word, thing_at, StandOnce}

-- the word that a thing stands for
pub record IsOfWord (lines : List Line) (t : Thing) : Type 0 where
  pub line : Line
  pub word : List ℕ
  pub at : slice_get lines t.line ≡ Some line
  pub stands : slice_get line.words t.word ≡ Some word
  pub drawn : drawn_as line.kind (length line.words) t.word word ≡ Some t.what
  pub shows : t.text ≡ text_shown t.what word

module _ (lines : List Line) (t : Thing) where
  from_what : (line : Line) → slice_get lines t.line ≡ Some line → (word : List ℕ) → slice_get line.words t.word ≡ Some word
      → (w : Option What) → drawn_as line.kind (length line.words) t.word word ≡ w → Contains (thing_of w t.line t.word word) t → IsOfWord lines t
  from_what line e word f None g c = absurd (Contains-nil t c)
  from_what line e word f (Some w) g c =
      let same : record { line = t.line; word = t.word; what = w; text = text_shown w word } ≡ t = Contains-one _ t c in
      let is : w ≡ t.what = ap (λ (z : Thing). z.what) same in
      record { line = line; word = word; at = e; stands = f; drawn = g ∙ ap (λ z. Some z) is; shows = sym (ap (λ (z : Thing). z.text) same) ∙ ap (λ z. text_shown z word) is }

  from_word : (line : Line) → slice_get lines t.line ≡ Some line → (o : Option (List ℕ)) → slice_get line.words t.word ≡ o → Contains (thing_of_word line t.line t.word o) t → IsOfWord lines t
  from_word line e None f c = absurd (Contains-nil t c)
  from_word line e (Some word) f c = from_what line e word f (drawn_as line.kind (length line.words) t.word word) refl c

  from_line : (o : Option Line) → slice_get lines t.line ≡ o → Contains (thing_at o t.line t.word) t → IsOfWord lines t
  from_line None e c = absurd (Contains-nil t c)
  from_line (Some line) e c = from_word line e (slice_get line.words t.word) refl c

pub is_of_word : (lines : List Line) (things : List Thing) (t : Thing) → StandOnce lines things → Contains things t → IsOfWord lines t
is_of_word lines things t once c =
    let self : stands_for t.line t.word t ≡ true = ap (λ b. b && (t.word == t.word)) (eq-eqb t.line t.line refl) ∙ eq-eqb t.word t.word refl in
    let P : List Thing → Type 0 = λ ts. Contains ts t in
    from_line lines t (slice_get lines t.line) refl (subst P (once t.line t.word) (Contains-filter (stands_for t.line t.word) things t c self))
