-- Parts follow one another in one way, so a file is cut in one way.
use Rattle.std.proofs.Common.{Option, Some, None, ◌≡◌, ◌≤◌, ◌<◌, ℕ, true, false, not, List, [], ◌∷◌, ◌++◌, ◌==◌, length, length-append, append_assoc, append-nil, ◌⊎◌, inl, inr, take, drop, refl, ap, sym, ◌∙◌, arith, subst}
use Rattle.std.specs.List.{prefix_len}
use Rattle.std.proofs.lemmas.Bool.{false≢true}
use Rattle.std.proofs.lemmas.Bool.Decides.{nat_tests}
use Rattle.su_lex.specs.Blanks.{begins, is_space, IsRun, Comment, begins_comment, Gap}
use Rattle.su_lex.specs.Blanks as b
use Rattle.su_lex.specs.Pieces.{has_no_quote, is_plain, Part, Parts, Statement, added, PiecesAt, Pieces, LiesWithin, after_mark}
use Rattle.std.proofs.Common.{All, get_or, ◌-◌}
use Rattle.std.proofs.lemmas.List.{take_rest}
use Rattle.std.proofs.lemmas.List.Elements.{All-cons, All-nil, All-same}
use Rattle.su_lex.specs.Pieces as p
use Rattle.su_lex.specs.declared.spans.Span.{Span}
use Rattle.su_lex.proofs.Runs.{run_same, run_at}
use Rattle.su_lex.proofs.Gaps.{IsSolid, comment_begins, comment_same, gap_same}

-- neither a part nor anything else: the end, or a `;`
abbrev pub Ends : List ℕ → Type 0
Ends s = begins (λ b. not (b == 59)) s ≡ false

-- ---- texts in quotes, closed or not

pub record InQuotes (s r : List ℕ) : Type 0 where
  pub content : List ℕ
  pub tail : List ℕ
  pub whole : s ≡ 39 ∷ (content ++ tail)
  pub run : IsRun (λ b. not (b == 39)) content tail
  pub behind : r ≡ drop 1 tail

in_quotes : (content s r : List ℕ) → s ≡ 39 ∷ (content ++ 39 ∷ r) → has_no_quote content ≡ true → InQuotes s r
in_quotes content s r e h = record { content = content; tail = 39 ∷ r; whole = e; run = record { passes = h; ends = refl }; behind = refl }

unclosed_in_quotes : (content s r : List ℕ) → s ≡ 39 ∷ content → has_no_quote content ≡ true → r ≡ [] → InQuotes s r
unclosed_in_quotes content s r e h nil =
    record { content = content; tail = []; whole = e ∙ ap (λ v. 39 ∷ v) (sym (append-nil content)); run = record { passes = h; ends = refl }; behind = nil }

quotes_same : (s r t : List ℕ) → InQuotes s r → InQuotes s t → r ≡ t
quotes_same s r t x y =
    let e : x.content ++ x.tail ≡ y.content ++ y.tail = let h = sym x.whole ∙ y.whole in cc in
    x.behind ∙ ap (drop 1) (run_same (λ b. not (b == 39)) x.content x.tail y.content y.tail x.run y.run e).1 ∙ sym y.behind

pub quotes_part : (s r : List ℕ) → InQuotes s r → Part s r
quotes_part s r x = by_tail x.tail x.whole x.run x.behind
  where
    by_tail : (tail : List ℕ) → s ≡ 39 ∷ (x.content ++ tail) → IsRun (λ b. not (b == 39)) x.content tail → r ≡ drop 1 tail → Part s r
    by_tail [] e run behind = p.unclosed x.content s r (e ∙ ap (λ v. 39 ∷ v) (append-nil x.content)) run.passes behind
    by_tail (q ∷ tail) e run behind =
        let quote : q ≡ 39 = grind (arith, nat_tests, run.ends) in
        p.text x.content s r (e ∙ ap (λ v. 39 ∷ (x.content ++ v)) (rw (quote, behind) refl)) run.passes

-- the text whose content begins here ends behind the first quote
pub quote_at : (content : List ℕ) (n : ℕ) → n ≡ prefix_len (λ b. not (b == 39)) content → Part (39 ∷ content) (drop 1 (drop n content))
quote_at content n e =
    let run = run_at (λ b. not (b == 39)) content n e in
    quotes_part (39 ∷ content) (drop 1 (drop n content)) (record { content = take n content; tail = drop n content; whole = ap (λ v. 39 ∷ v) run.0; run = run.1; behind = refl })

-- ---- one part ends at one place

no_plain : (x : ℕ) (s r : List ℕ) → s ≡ x ∷ r → is_plain x ≡ true → (t : List ℕ) → s ≡ 39 ∷ t → ⊥
no_plain x s r e h t k = let same : x ≡ 39 = cc in grind (arith, nat_tests, same, h)

no_comment : (s r t : List ℕ) → s ≡ 39 ∷ t → Comment s r → ⊥
no_comment s r t e c = false≢true (sym (ap (begins (λ b. b == 39)) c.1) ∙ ap (begins (λ b. b == 39)) e)

both_quotes : (s r t : List ℕ) → InQuotes s r → Part s t → r ≡ t
both_quotes s r t x (p.byte y _ _ e h k) = absurd (no_plain y s t e h (x.content ++ x.tail) x.whole)
both_quotes s r t x (p.text content _ _ e h) = quotes_same s r t x (in_quotes content s t e h)
both_quotes s r t x (p.unclosed content _ _ e h k) = quotes_same s r t x (unclosed_in_quotes content s t e h k)
both_quotes s r t x (p.comment _ _ c) = absurd (no_comment s t (x.content ++ x.tail) x.whole c)

pub part_same : (s r t : List ℕ) → Part s r → Part s t → r ≡ t
part_same s r t (p.text content _ _ e h) y = both_quotes s r t (in_quotes content s r e h) y
part_same s r t (p.unclosed content _ _ e h k) y = both_quotes s r t (unclosed_in_quotes content s r e h k) y
part_same s r t (p.byte x _ _ e h k) (p.byte y _ _ e' h' k') = cc
part_same s r t (p.byte x _ _ e h k) (p.comment _ _ c) = absurd (false≢true (sym k ∙ comment_begins s t c))
part_same s r t (p.comment _ _ c) (p.byte y _ _ e' h' k') = absurd (false≢true (sym k' ∙ comment_begins s r c))
part_same s r t (p.comment _ _ c) (p.comment _ _ d) = comment_same s r t c d
part_same s r t x (p.text content _ _ e h) = sym (both_quotes s t r (in_quotes content s t e h) x)
part_same s r t x (p.unclosed content _ _ e h k) = sym (both_quotes s t r (unclosed_in_quotes content s t e h k) x)

part_goes_on : (s r : List ℕ) → Part s r → begins (λ b. not (b == 59)) s ≡ true
part_goes_on s r (p.byte x _ _ e h k) = rw e (grind (arith, nat_tests, h))
part_goes_on s r (p.text content _ _ e h) = rw e refl
part_goes_on s r (p.unclosed content _ _ e h k) = rw e refl
part_goes_on s r (p.comment _ _ c) = rw (c.1) refl

-- ---- parts end at one place

pub parts_behind : (s t r : List ℕ) → Parts s t → Parts s r → Ends r → Parts t r
parts_behind s t r (p.none _ _ e) y ends = subst (λ (v : List ℕ). Parts v r) e y
parts_behind s t r (p.more _ u _ x xs) (p.none _ _ e) ends = absurd (false≢true (sym ends ∙ ap (begins (λ b. not (b == 59))) (sym e) ∙ part_goes_on s u x))
parts_behind s t r (p.more _ u _ x xs) (p.more _ v _ y ys) ends =
    parts_behind u t r xs (subst (λ (w : List ℕ). Parts w r) (part_same s v u y x) ys) ends

parts_end : (s r : List ℕ) → Ends s → Parts s r → s ≡ r
parts_end s r ends (p.none _ _ e) = e
parts_end s r ends (p.more _ u _ x xs) = absurd (false≢true (sym ends ∙ part_goes_on s u x))

pub parts_same : (s r t : List ℕ) → Parts s r → Ends r → Parts s t → Ends t → r ≡ t
parts_same s r t x ends y ends' = parts_end r t ends (parts_behind s r t x y ends')

pub parts_trans : (s t r : List ℕ) → Parts s t → Parts t r → Parts s r
parts_trans s t r (p.none _ _ e) y = subst (λ (v : List ℕ). Parts v r) (sym e) y
parts_trans s t r (p.more _ u _ x xs) y = p.more s u r x (parts_trans u t r xs y)

part_suffix : (s r : List ℕ) → Part s r → (front : List ℕ) × (s ≡ front ++ r)
part_suffix s r (p.byte x _ _ e h k) = (x ∷ [], e)
part_suffix s r (p.text content _ _ e h) = (39 ∷ (content ++ 39 ∷ []), e ∙ ap (λ v. 39 ∷ v) (sym (append_assoc content (39 ∷ []) r)))
part_suffix s r (p.unclosed content _ _ e h k) = (s, rw (k, append-nil) refl)
part_suffix s r (p.comment _ _ c) = (45 ∷ 45 ∷ c.0, c.1)

parts_suffix : (s r : List ℕ) → Parts s r → (front : List ℕ) × (s ≡ front ++ r)
parts_suffix s r (p.none _ _ e) = ([], e)
parts_suffix s r (p.more _ u _ x xs) =
    let h = part_suffix s u x in
    let k = parts_suffix u r xs in
    (h.0 ++ k.0, h.1 ∙ ap (λ v. h.0 ++ v) k.1 ∙ sym (append_assoc h.0 k.0 r))

pub parts_within : (s r : List ℕ) → Parts s r → length r ≤ length s
parts_within s r x = let h = parts_suffix s r x in omega (arith, ap length h.1, length-append h.0 r)

-- ---- white space and comments are parts

space_plain : (x : ℕ) (r : List ℕ) → is_space x ≡ true → (is_plain x ≡ true) × (begins_comment (x ∷ r) ≡ false)
space_plain x r h = let dash : (x == 45) ≡ false = grind (arith, nat_tests, h) in (grind (arith, nat_tests, h), rw dash refl)

pub gap_parts : (s r : List ℕ) → Gap s r → Parts s r
gap_parts s r (b.none _ _ e) = p.none s r e
gap_parts s r (b.space x _ u _ e h g) = let k = space_plain x u h in p.more s u r (p.byte x s u e k.0 (ap begins_comment e ∙ k.1)) (gap_parts u r g)
gap_parts s r (b.comment _ u _ c g) = p.more s u r (p.comment s u c) (gap_parts u r g)

ends_solid : (s : List ℕ) → Ends s → IsSolid s
ends_solid [] e = record { no_space = refl; no_comment = refl }
ends_solid (x ∷ s) e = let h : x ≡ 59 = grind (arith, nat_tests, e) in rw h (record { no_space = refl; no_comment = refl })

no_front : (front r : List ℕ) → length (front ++ r) ≤ length r → front ++ r ≡ r
no_front [] r h = refl
no_front (x ∷ front) r h = absurd (omega (arith, h, length-append front r))

-- a piece is blank exactly where its blanks are as long as it
pub blank_piece : (s a r : List ℕ) → Gap s a → Parts s r → Ends r → length a ≤ length r → Gap s r
blank_piece s a r g x ends short =
    let h = parts_suffix a r (parts_behind s a r (gap_parts s a g) x ends) in
    let same : a ≡ r = h.1 ∙ no_front h.0 r (subst (λ (v : List ℕ). length v ≤ length r) h.1 short) in
    subst (λ (v : List ℕ). Gap s v) same g

pub no_blank_piece : (s a r : List ℕ) → Gap s a → IsSolid a → Ends r → length r < length a → Gap s r → ⊥
no_blank_piece s a r g solid ends long h = omega (arith, ap length (gap_same s a r g solid h (ends_solid r ends)))

-- ---- statements

same_span : (x y : Span) → x.start ≡ y.start → x.end ≡ y.end → x ≡ y
same_span x y s e i = record { start = s i; end = e i }

statement_same : (total : ℕ) (s r : List ℕ) (x y : Option Span) → Statement total s r x → Statement total s r y → x ≡ y
statement_same total s r None None a c = refl
statement_same total s r None (Some q) a c = absurd (c.0 a)
statement_same total s r (Some q) None a c = absurd (a.0 c)
statement_same total s r (Some x) (Some y) a c = ap Some (same_span x y (omega (arith, a.1, c.1)) (omega (arith, a.2, c.2)))

pub same_pieces : (total : ℕ) (s : List ℕ) (xs ys : List Span) → PiecesAt total s xs → PiecesAt total s ys → xs ≡ ys
same_pieces total s xs ys (p.last _ _ x _ q a e) (p.last _ _ y _ q' c e') = e ∙ ap (λ v. added v []) (statement_same total s [] x y a c) ∙ sym e'
same_pieces total s xs ys (p.last _ _ x _ q a e) (p.cut _ _ r y more _ q' c m e') = let h = parts_same s [] (59 ∷ r) q refl q' refl in absurd (cc)
same_pieces total s xs ys (p.cut _ _ r x more _ q a m e) (p.last _ _ y _ q' c e') = let h = parts_same s (59 ∷ r) [] q refl q' refl in absurd (cc)
same_pieces total s xs ys (p.cut _ _ r x more _ q a m e) (p.cut _ _ r' y more' _ q' c m' e') =
    let h = parts_same s (59 ∷ r') (59 ∷ r) q' refl q refl in
    let at : r' ≡ r = cc in
    let here : x ≡ y = statement_same total s (59 ∷ r) x y a (subst (λ (v : List ℕ). Statement total s v y) h c) in
    let others : more ≡ more' = same_pieces total r more more' m (subst (λ (v : List ℕ). PiecesAt total v more') at m') in
    e ∙ ap (λ v. added v more) here ∙ ap (added y) others ∙ sym e'

pub one_list_of_pieces : (file : List ℕ) (spans others : List Span) → Pieces file spans → Pieces file others → spans ≡ others
one_list_of_pieces file spans others = same_pieces (length file) (after_mark file) spans others

pub no_pieces : (total : ℕ) → PiecesAt total [] []
no_pieces total = p.last total [] None [] (p.none [] [] refl) (b.none [] [] refl) refl

ends_cut : (r : List ℕ) → Ends r → (r ≡ []) ⊎ (r ≡ 59 ∷ drop 1 r)
ends_cut [] e = inl refl
ends_cut (x ∷ r) e = let h : x ≡ 59 = grind (arith, nat_tests, e) in inr (ap (λ v. v ∷ r) h)

-- a piece before the pieces behind it
pub piece_before : (total : ℕ) (s r : List ℕ) (here : Option Span) (more : List Span) → Parts s r → Ends r → Statement total s r here → PiecesAt total (drop 1 r) more → PiecesAt total s (added here more)
piece_before total s r here more x ends st ps = elim (ends_cut r ends) [
  | inl nil ↦
      let none : more ≡ [] = same_pieces total [] more [] (subst (λ (v : List ℕ). PiecesAt total (drop 1 v) more) nil ps) (no_pieces total) in
      p.last total s here (added here more) (subst (Parts s) nil x) (subst (λ (v : List ℕ). Statement total s v here) nil st) (ap (added here) none)
  | inr at ↦ p.cut total s (drop 1 r) here more (added here more) (subst (Parts s) at x) (subst (λ (v : List ℕ). Statement total s v here) at st) ps refl
]

pub record Behind (total : ℕ) (r : List ℕ) (here : Option Span) (all : List Span) : Type 0 where
  pub more : List Span
  pub all_is : all ≡ added here more
  pub behind : PiecesAt total (drop 1 r) more

pub piece_behind : (total : ℕ) (s r : List ℕ) (here : Option Span) (all : List Span) → Parts s r → Ends r → Statement total s r here → PiecesAt total s all → Behind total r here all
piece_behind total s r here all x ends st (p.last _ _ y _ q c e) =
    let nil : r ≡ [] = parts_same s r [] x ends q refl in
    let same : y ≡ here = statement_same total s r y here (subst (λ (v : List ℕ). Statement total s v y) (sym nil) c) st in
    record { more = []; all_is = e ∙ ap (λ v. added v []) same; behind = subst (λ (v : List ℕ). PiecesAt total (drop 1 v) []) (sym nil) (no_pieces total) }
piece_behind total s r here all x ends st (p.cut _ _ t y more _ q c m e) =
    let at : r ≡ 59 ∷ t = parts_same s r (59 ∷ t) x ends q refl in
    let same : y ≡ here = statement_same total s r y here (subst (λ (v : List ℕ). Statement total s v y) (sym at) c) st in
    record { more = more; all_is = e ∙ ap (λ v. added v more) same; behind = subst (λ (v : List ℕ). PiecesAt total (drop 1 v) more) (sym at) m }

pub added_append : (spans more : List Span) (here : Option Span) → (spans ++ added here []) ++ more ≡ spans ++ added here more
added_append spans more None = ap (λ v. v ++ more) (append-nil spans)
added_append spans more (Some x) = append_assoc spans (x ∷ []) more

-- ---- steps of the code over a piece

pub quote_step : (s t r : List ℕ) → 1 ≤ length s → get_or s 0 0 ≡ 39 → Part (39 ∷ take (length s - 1) (drop 1 s)) t → Parts t r → Parts s r
quote_step [] t r some h x xs = absurd (omega arith)
quote_step (q ∷ s) t r some h x xs =
    let rest = rw take_rest at x in
    p.more (q ∷ s) t r (subst (λ (v : ℕ). Part (v ∷ s) t) (sym h) rest) xs

pub byte_step : (s r : List ℕ) → 1 ≤ length s → is_plain (get_or s 0 0) ≡ true → begins_comment s ≡ false → Parts (take (length s - 1) (drop 1 s)) r → Parts s r
byte_step [] r some h k xs = absurd (omega arith)
byte_step (x ∷ s) r some h k xs = p.more (x ∷ s) s r (p.byte x (x ∷ s) s refl h k) (rw take_rest at xs)

-- ---- every span lies within the file

added_within : (total : ℕ) (file s r : List ℕ) (here : Option Span) (more : List Span) → total ≡ length file → length r ≤ length s → Statement total s r here
    → All (LiesWithin file) more → All (LiesWithin file) (added here more)
added_within total file s r None more e short st all = all
added_within total file s r (Some x) more e short st all =
    All-cons (LiesWithin file) x more (record { ordered = omega (arith, st.1, st.2); within = omega (arith, st.2) }) all

within_at : (total : ℕ) (file s : List ℕ) (spans : List Span) → total ≡ length file → PiecesAt total s spans → All (LiesWithin file) spans
within_at total file s spans e (p.last _ _ here _ x st h) =
    All-same (LiesWithin file) spans (added here []) h (added_within total file s [] here [] e (parts_within s [] x) st (All-nil (LiesWithin file)))
within_at total file s spans e (p.cut _ _ r here more _ x st m h) =
    All-same (LiesWithin file) spans (added here more) h (added_within total file s (59 ∷ r) here more e (parts_within s (59 ∷ r) x) st (within_at total file r more e m))

pub pieces_within : (file : List ℕ) (spans : List Span) → Pieces file spans → All (LiesWithin file) spans
pieces_within file spans h = within_at (length file) file (after_mark file) spans refl h

pub byte_plain : (x : ℕ) → (x ≡ 59 → ⊥) → (x ≡ 39 → ⊥) → is_plain x ≡ true
byte_plain x no_cut no_quote = grind (arith, nat_tests, no_cut, no_quote)
