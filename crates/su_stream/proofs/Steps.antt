-- Where an open text stands, it stands behind one byte more.
use Rattle.std.proofs.Common.{◌≡◌, ℕ, Bool, true, false, not, ◌&&◌, ◌==◌, List, [], ◌∷◌, ◌++◌, append_assoc, refl, ap, sym, ◌∙◌, arith, subst}
use Rattle.std.specs.List.{list_all}
use Rattle.std.proofs.lemmas.Bool.{false≢true}
use Rattle.std.proofs.lemmas.Bool.Decides.{nat_tests}
use Rattle.su_lex.specs.Blanks.{begins, is_space, IsRun, Comment, begins_comment, Gap}
use Rattle.su_lex.specs.Blanks as b
use Rattle.su_lex.specs.Pieces.{has_no_quote, is_plain, Part, Parts}
use Rattle.su_lex.specs.Pieces as p
use Rattle.su_lex.proofs.Gaps.{IsSolid, gap_same, gap_trans}
use Rattle.su_lex.proofs.Cuts.{parts_trans}
use Rattle.su_stream.specs.declared.states.Mode.{Mode}
use Rattle.su_stream.specs.declared.states.Mode.TheVariants.{Plain, Dash, Quoted, Comment as InComment}
use Rattle.su_stream.specs.declared.states.State.{State}
use Rattle.su_stream.specs.inside.OpenTexts.{has_no_feed, Ends, Blankness, IsAt}
use Rattle.su_stream.specs.inside.Steps.{after_whole, after_in, after_byte, is_whole_mode, is_whole, ends_at, state_of}

-- nothing solid stands at a piece's end
pub ends_solid : (r : List ℕ) → Ends r → IsSolid r
ends_solid [] e = record { no_space = refl; no_comment = refl }
ends_solid (x ∷ r) e = let h : x ≡ 59 = grind (arith, nat_tests, e) in rw h (record { no_space = refl; no_comment = refl })

-- a gap that stops at something solid, which is no end of a piece, comes to no end
pub solid_ends : (s x r : List ℕ) → Gap s x → IsSolid x → begins (λ b. not (b == 59)) x ≡ true → Ends r → ¬ (Gap s r)
solid_ends s x r g solid more ends h =
    let same : x ≡ r = gap_same s x r g solid h (ends_solid r ends) in
    false≢true (sym ends ∙ ap (begins (λ b. not (b == 59))) (sym same) ∙ more)

-- ---- a byte at the end of a text, by what it does to the tail

moved : (A : List ℕ → Type 0) (text : List ℕ) (x : ℕ) (more : List ℕ) → A (text ++ x ∷ more) → A ((text ++ x ∷ []) ++ more)
moved A text x more h = subst A (sym (append_assoc text (x ∷ []) more)) h

-- parts go on up to the new tail
goes : (text tail next : List ℕ) (x : ℕ) → ((more : List ℕ) → Parts (text ++ more) (tail ++ more)) → ((more : List ℕ) → Parts (tail ++ x ∷ more) (next ++ more))
    → (more : List ℕ) → Parts ((text ++ x ∷ []) ++ more) (next ++ more)
goes text tail next x parts step more =
    moved (λ v. Parts v (next ++ more)) text x more (parts_trans (text ++ x ∷ more) (tail ++ x ∷ more) (next ++ more) (parts (x ∷ more)) (step more))

-- what is blank stays so, and what isn't too
stays : (blank : Bool) (text tail next : List ℕ) (x : ℕ) → Blankness blank text tail → ((more : List ℕ) → Gap (tail ++ x ∷ more) (next ++ more)) → Blankness blank (text ++ x ∷ []) next
stays true text tail next x gap step = λ more.
    moved (λ v. Gap v (next ++ more)) text x more (gap_trans (text ++ x ∷ more) (tail ++ x ∷ more) (next ++ more) (gap (x ∷ more)) (step more))
stays false text tail next x solid step = λ more r ends g. solid (x ∷ more) r ends (subst (λ (v : List ℕ). Gap v r) (append_assoc text (x ∷ []) more) g)

-- a text turns solid
turns : (blank : Bool) (text tail next : List ℕ) (x : ℕ) → Blankness blank text tail → ((more : List ℕ) → IsSolid (tail ++ x ∷ more))
    → ((more : List ℕ) → begins (λ b. not (b == 59)) (tail ++ x ∷ more) ≡ true) → Blankness false (text ++ x ∷ []) next
turns true text tail next x gap solid begin = λ more r ends g.
    solid_ends (text ++ x ∷ more) (tail ++ x ∷ more) r (gap (x ∷ more)) (solid more) (begin more) ends (subst (λ (v : List ℕ). Gap v r) (append_assoc text (x ∷ []) more) g)
turns false text tail next x solid step begin = λ more r ends g. solid (x ∷ more) r ends (subst (λ (v : List ℕ). Gap v r) (append_assoc text (x ∷ []) more) g)

-- the tail is as it was, but for the byte at its end
longer : (tail : List ℕ) (x : ℕ) (more : List ℕ) → (tail ++ x ∷ []) ++ more ≡ tail ++ x ∷ more
longer tail x more = append_assoc tail (x ∷ []) more

same_tail : (tail : List ℕ) (x : ℕ) (more : List ℕ) → Parts (tail ++ x ∷ more) ((tail ++ x ∷ []) ++ more)
same_tail tail x more = p.none (tail ++ x ∷ more) ((tail ++ x ∷ []) ++ more) (sym (longer tail x more))

same_gap : (tail : List ℕ) (x : ℕ) (more : List ℕ) → Gap (tail ++ x ∷ more) ((tail ++ x ∷ []) ++ more)
same_gap tail x more = b.none (tail ++ x ∷ more) ((tail ++ x ∷ []) ++ more) (sym (longer tail x more))

-- ---- behind whole parts

-- this byte is a whole part of its own
pub plain_byte : (x : ℕ) (more : List ℕ) → (x == 59) ≡ false → (x == 39) ≡ false → (x == 45) ≡ false → Parts (x ∷ more) more
plain_byte x more cut quote dash =
    p.more (x ∷ more) more more (p.byte x (x ∷ more) more refl (grind (arith, nat_tests, cut, quote)) (rw dash refl)) (p.none more more refl)

solid_byte : (x : ℕ) (more : List ℕ) → is_space x ≡ false → (x == 45) ≡ false → IsSolid (x ∷ more)
solid_byte x more space dash = record { no_space = space; no_comment = rw dash refl }

no_cut : (x : ℕ) (more : List ℕ) → (x == 59) ≡ false → begins (λ b. not (b == 59)) (x ∷ more) ≡ true
no_cut x more e = rw e refl

-- the text, whose parts are whole, has one byte more
record Whole (blank : Bool) (text : List ℕ) (tail : List ℕ) : Type 0 where
  parts : (more : List ℕ) → Parts (text ++ more) (tail ++ more)
  blankness : Blankness blank text tail

quote_opens : (blank : Bool) (text : List ℕ) → Whole blank text [] → IsAt (state_of Quoted blank) (text ++ 39 ∷ [])
quote_opens blank text w = record {
  tail = 39 ∷ [];
  tail_is = ([], refl, refl);
  parts = goes text [] (39 ∷ []) 39 w.parts (λ more. same_tail [] 39 more);
  blankness = stays blank text [] (39 ∷ []) 39 w.blankness (λ more. same_gap [] 39 more);
}

dash_stands : (blank : Bool) (text : List ℕ) → Whole blank text [] → IsAt (state_of Dash blank) (text ++ 45 ∷ [])
dash_stands blank text w = record {
  tail = 45 ∷ [];
  tail_is = refl;
  parts = goes text [] (45 ∷ []) 45 w.parts (λ more. same_tail [] 45 more);
  blankness = stays blank text [] (45 ∷ []) 45 w.blankness (λ more. same_gap [] 45 more);
}

space_gap : (x : ℕ) (more : List ℕ) → is_space x ≡ true → Gap (x ∷ more) more
space_gap x more e = b.space x (x ∷ more) more more refl e (b.none more more refl)

plain_blank : (blank : Bool) (text : List ℕ) (x : ℕ) → Blankness blank text [] → (x == 59) ≡ false → (x == 45) ≡ false → Blankness (blank && is_space x) (text ++ x ∷ []) []
plain_blank blank text x h cut dash = elim (is_space x) as (λ v. is_space x ≡ v → Blankness (blank && v) (text ++ x ∷ []) []) [
  | true ↦ λ e. subst (λ (v : Bool). Blankness v (text ++ x ∷ []) []) (sym (and_true blank)) (stays blank text [] [] x h (λ more. space_gap x more e))
  | false ↦ λ e. subst (λ (v : Bool). Blankness v (text ++ x ∷ []) []) (sym (and_false blank)) (turns blank text [] [] x h (λ more. solid_byte x more e dash) (λ more. no_cut x more cut))
] refl
  where
    and_true : (v : Bool) → (v && true) ≡ v
    and_true true = refl
    and_true false = refl

    and_false : (v : Bool) → (v && false) ≡ false
    and_false true = refl
    and_false false = refl

plain_stands : (blank : Bool) (text : List ℕ) (x : ℕ) → Whole blank text [] → (x == 59) ≡ false → (x == 39) ≡ false → (x == 45) ≡ false → IsAt (state_of Plain (blank && is_space x)) (text ++ x ∷ [])
plain_stands blank text x w cut quote dash = record {
  tail = [];
  tail_is = refl;
  parts = goes text [] [] x w.parts (λ more. plain_byte x more cut quote dash);
  blankness = plain_blank blank text x w.blankness cut dash;
}

whole_after : (blank : Bool) (text : List ℕ) (x : ℕ) → Whole blank text [] → (x == 59) ≡ false → IsAt (after_whole blank x) (text ++ x ∷ [])
whole_after blank text x w cut = elim (x == 39) as (λ v. (x == 39) ≡ v → IsAt (after_whole blank x) (text ++ x ∷ [])) [
  | true ↦ λ q. let at : x ≡ 39 = grind (arith, nat_tests, q) in rw (at) (quote_opens blank text w)
  | false ↦ λ q. elim (x == 45) as (λ v. (x == 45) ≡ v → IsAt (after_whole blank x) (text ++ x ∷ [])) [
    | true ↦ λ d. let at : x ≡ 45 = grind (arith, nat_tests, d) in rw (at) (dash_stands blank text w)
    | false ↦ λ d. rw (q, d) (plain_stands blank text x w cut q d)
  ] refl
] refl

-- ---- behind a part that isn't whole

-- a minus sign that begins no comment is a whole part
dash_byte : (x : ℕ) (more : List ℕ) → (x == 45) ≡ false → Parts (45 ∷ x ∷ more) (x ∷ more)
dash_byte x more e = p.more (45 ∷ x ∷ more) (x ∷ more) (x ∷ more) (p.byte 45 (45 ∷ x ∷ more) (x ∷ more) refl refl e) (p.none (x ∷ more) (x ∷ more) refl)

dash_solid : (x : ℕ) (more : List ℕ) → (x == 45) ≡ false → IsSolid (45 ∷ x ∷ more)
dash_solid x more e = record { no_space = refl; no_comment = e }

-- behind a minus sign that begins no comment, and one byte that begins a quoted part
dash_quote : (blank : Bool) (text : List ℕ) → Whole blank text (45 ∷ []) → IsAt (state_of Quoted false) (text ++ 39 ∷ [])
dash_quote blank text w = record {
  tail = 39 ∷ [];
  tail_is = ([], refl, refl);
  parts = goes text (45 ∷ []) (39 ∷ []) 39 w.parts (λ more. dash_byte 39 more refl);
  blankness = turns blank text (45 ∷ []) (39 ∷ []) 39 w.blankness (λ more. dash_solid 39 more refl) (λ more. refl);
}

dash_plain : (blank : Bool) (text : List ℕ) (x : ℕ) → Whole blank text (45 ∷ []) → (x == 59) ≡ false → (x == 39) ≡ false → (x == 45) ≡ false → IsAt (state_of Plain false) (text ++ x ∷ [])
dash_plain blank text x w cut quote dash = record {
  tail = [];
  tail_is = refl;
  parts = goes text (45 ∷ []) [] x w.parts (λ more. parts_trans (45 ∷ x ∷ more) (x ∷ more) more (dash_byte x more dash) (plain_byte x more cut quote dash));
  blankness = turns blank text (45 ∷ []) [] x w.blankness (λ more. dash_solid x more dash) (λ more. refl);
}

dash_dash : (blank : Bool) (text : List ℕ) → Whole blank text (45 ∷ []) → IsAt (state_of InComment blank) (text ++ 45 ∷ [])
dash_dash blank text w = record {
  tail = 45 ∷ 45 ∷ [];
  tail_is = ([], refl, refl);
  parts = goes text (45 ∷ []) (45 ∷ 45 ∷ []) 45 w.parts (λ more. same_tail (45 ∷ []) 45 more);
  blankness = stays blank text (45 ∷ []) (45 ∷ 45 ∷ []) 45 w.blankness (λ more. same_gap (45 ∷ []) 45 more);
}

dash_after : (blank : Bool) (text : List ℕ) (x : ℕ) → Whole blank text (45 ∷ []) → (x == 59) ≡ false → IsAt (after_in Dash blank x) (text ++ x ∷ [])
dash_after blank text x w cut = elim (x == 45) as (λ v. (x == 45) ≡ v → IsAt (after_in Dash blank x) (text ++ x ∷ [])) [
  | true ↦ λ d. let at : x ≡ 45 = grind (arith, nat_tests, d) in rw (at) (dash_dash blank text w)
  | false ↦ λ d. elim (x == 39) as (λ v. (x == 39) ≡ v → IsAt (after_in Dash blank x) (text ++ x ∷ [])) [
    | true ↦ λ q. let at : x ≡ 39 = grind (arith, nat_tests, q) in rw (at) (dash_quote blank text w)
    | false ↦ λ q. rw (d, q) (dash_plain blank text x w cut q d)
  ] refl
] refl

all_pushed : (test : ℕ → Bool) (xs : List ℕ) (x : ℕ) → list_all test xs ≡ true → test x ≡ true → list_all test (xs ++ x ∷ []) ≡ true
all_pushed test [] x all one = grind (arith, one)
all_pushed test (y ∷ ys) x all one =
    let first : test y ≡ true = grind (arith, all) in
    let others : list_all test ys ≡ true = grind (arith, all, first) in
    let rest = all_pushed test ys x others one in
    grind (arith, first, rest)

no_quote : (x : ℕ) → (x == 39) ≡ false → not (x == 39) ≡ true
no_quote x e = rw e refl

no_feed : (x : ℕ) → (x == 10) ≡ false → not (x == 10) ≡ true
no_feed x e = rw e refl

-- a quote closes the text
quote_closes : (content more : List ℕ) → has_no_quote content ≡ true → Parts ((39 ∷ content) ++ 39 ∷ more) more
quote_closes content more plain = p.more (39 ∷ (content ++ 39 ∷ more)) more more (p.text content (39 ∷ (content ++ 39 ∷ more)) more refl plain) (p.none more more refl)

quoted_after : (blank : Bool) (text content : List ℕ) (x : ℕ) → has_no_quote content ≡ true → Whole blank text (39 ∷ content) → IsAt (after_in Quoted blank x) (text ++ x ∷ [])
quoted_after blank text content x plain w = elim (x == 39) as (λ v. (x == 39) ≡ v → IsAt (after_in Quoted blank x) (text ++ x ∷ [])) [
  | true ↦ λ q. let at : x ≡ 39 = grind (arith, nat_tests, q) in rw (at) (record {
    tail = [];
    tail_is = refl;
    parts = goes text (39 ∷ content) [] 39 w.parts (λ more. quote_closes content more plain);
    blankness = turns blank text (39 ∷ content) [] 39 w.blankness (λ more. record { no_space = refl; no_comment = refl }) (λ more. refl);
  })
  | false ↦ λ q. rw (q) (record {
    tail = 39 ∷ (content ++ x ∷ []);
    tail_is = (content ++ x ∷ [], refl, all_pushed (λ b. not (b == 39)) content x plain (no_quote x q));
    parts = goes text (39 ∷ content) (39 ∷ (content ++ x ∷ [])) x w.parts (λ more. same_tail (39 ∷ content) x more);
    blankness = stays blank text (39 ∷ content) (39 ∷ (content ++ x ∷ [])) x w.blankness (λ more. same_gap (39 ∷ content) x more);
  })
] refl

-- a comment ends before a line feed
comment_ends : (line more : List ℕ) → has_no_feed line ≡ true → Comment (45 ∷ 45 ∷ (line ++ 10 ∷ more)) (10 ∷ more)
comment_ends line more plain = (line, refl, record { passes = plain; ends = refl })

comment_after : (blank : Bool) (text line : List ℕ) (x : ℕ) → has_no_feed line ≡ true → Whole blank text (45 ∷ 45 ∷ line) → IsAt (after_in InComment blank x) (text ++ x ∷ [])
comment_after blank text line x plain w = elim (x == 10) as (λ v. (x == 10) ≡ v → IsAt (after_in InComment blank x) (text ++ x ∷ [])) [
  | true ↦ λ q. let at : x ≡ 10 = grind (arith, nat_tests, q) in rw (at) (record {
    tail = [];
    tail_is = refl;
    parts = goes text (45 ∷ 45 ∷ line) [] 10 w.parts (λ more.
        p.more (45 ∷ 45 ∷ (line ++ 10 ∷ more)) (10 ∷ more) more (p.comment (45 ∷ 45 ∷ (line ++ 10 ∷ more)) (10 ∷ more) (comment_ends line more plain)) (plain_byte 10 more refl refl refl));
    blankness = stays blank text (45 ∷ 45 ∷ line) [] 10 w.blankness (λ more.
        b.comment (45 ∷ 45 ∷ (line ++ 10 ∷ more)) (10 ∷ more) more (comment_ends line more plain) (space_gap 10 more refl));
  })
  | false ↦ λ q. rw (q) (record {
    tail = 45 ∷ 45 ∷ (line ++ x ∷ []);
    tail_is = (line ++ x ∷ [], refl, all_pushed (λ b. not (b == 10)) line x plain (no_feed x q));
    parts = goes text (45 ∷ 45 ∷ line) (45 ∷ 45 ∷ (line ++ x ∷ [])) x w.parts (λ more. same_tail (45 ∷ 45 ∷ line) x more);
    blankness = stays blank text (45 ∷ 45 ∷ line) (45 ∷ 45 ∷ (line ++ x ∷ [])) x w.blankness (λ more. same_gap (45 ∷ 45 ∷ line) x more);
  })
] refl

-- ---- the step

with_tail : (state : State) (text tail : List ℕ) (a : IsAt state text) → a.tail ≡ tail → Whole state.blank text tail
with_tail state text tail a e = subst (Whole state.blank text) e (record { parts = a.parts; blankness = a.blankness })

step_in : (mode : Mode) (blank : Bool) (text : List ℕ) (x : ℕ) → (x == 59 && is_whole_mode mode) ≡ false → IsAt (state_of mode blank) text → IsAt (after_in mode blank x) (text ++ x ∷ [])
step_in Plain blank text x cut a = whole_after blank text x (with_tail (state_of Plain blank) text [] a a.tail_is) (grind (arith, cut))
step_in Dash blank text x cut a = dash_after blank text x (with_tail (state_of Dash blank) text (45 ∷ []) a a.tail_is) (grind (arith, cut))
step_in Quoted blank text x cut a =
    let t = a.tail_is in quoted_after blank text t.0 x t.2 (with_tail (state_of Quoted blank) text (39 ∷ t.0) a t.1)
step_in InComment blank text x cut a =
    let t = a.tail_is in comment_after blank text t.0 x t.2 (with_tail (state_of InComment blank) text (45 ∷ 45 ∷ t.0) a t.1)

pub one_step : (state : State) (text : List ℕ) (x : ℕ) → ends_at state x ≡ false → IsAt state text → IsAt (after_byte state x) (text ++ x ∷ [])
one_step state text x cut a = step_in state.mode state.blank text x cut a

-- ---- where a text begins and ends

-- an empty text
pub start_at : IsAt (state_of Plain true) []
start_at = record { tail = []; tail_is = refl; parts = λ more. p.none more more refl; blankness = λ more. b.none more more refl }

pub ends_is : (state : State) (x : ℕ) → ends_at state x ≡ true → (x ≡ 59) × (is_whole state ≡ true)
ends_is state x e = grind (arith, nat_tests, e)
