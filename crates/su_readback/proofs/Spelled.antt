-- Symbols are spelled as closed words, and a query's text is made of closed words with blanks between them.
-- The idea: only blanks stand outside of symbols, and a text's content stands between quotes, with its own quotes twice.
use Rattle.std.proofs.Common.{◌≡◌, ℕ, suc, Bool, true, false, cond, List, [], ◌∷◌, ◌++◌, refl, sym, ap, ◌∙◌, append_assoc, arith}
use Rattle.std.specs.Prelude.{◌==◌, ◌&&◌, ◌||◌, not, decimal}
use Rattle.std.specs.Fmt.{signed_decimal}
use Rattle.std.specs.List.{AllByRecursion}
use Rattle.std.proofs.lemmas.Bool.{and_parts}
use Rattle.std.proofs.lemmas.Bool.Decides.{nat_tests}
use lib.IntN.{ℤ, pos, negsuc}
use Rattle.su_lex.specs.declared.meaning.Symbol.{Symbol}
use Rattle.su_lex.specs.declared.meaning.Symbol.TheVariants.{Word, Int, Text, Sign}
use Rattle.su_lex.specs.declared.signs.Sign.{Sign as ASign}
use Rattle.su_lex.specs.declared.signs.Sign.TheVariants as sign
use Rattle.su_lex.specs.TokenForms.{twice, doubled, quoted, sign_bytes}
use Rattle.su_lex.specs.Spelling.{spelled, opens, closes, after, spaced}
use Rattle.su_lex.specs.Symbols.{IsSymbol}
use Rattle.su_lex.proofs.Fronts.{word_all}
use Rattle.su_readback.specs.Words.{is_closed}
use Rattle.su_readback.specs.Explanations.{longer, words_in}
use Rattle.su_readback.proofs.Closed.{both, AllClosed, closed_append, letters_closed, decimal_closed}
use Rattle.su_readback.proofs.SchemaTexts.{blanks, joined}

-- ---- symbols

-- a quote is written twice, so that the text stays open
twice_closed : (t : Bool) (b : ℕ) (rest : List ℕ) → (b == 39) ≡ t → is_closed true rest ≡ true → is_closed true (cond t (39 ∷ 39 ∷ []) (b ∷ []) ++ rest) ≡ true
twice_closed true b rest e h = h
twice_closed false b rest e h = ap (λ q. is_closed (cond q false true) rest) e ∙ h

doubled_closed : (content : List ℕ) → is_closed true (doubled content ++ 39 ∷ []) ≡ true
doubled_closed [] = refl
doubled_closed (b ∷ bs) =
    ap (is_closed true) (append_assoc (twice b) (doubled bs) (39 ∷ [])) ∙ twice_closed (b == 39) b (doubled bs ++ 39 ∷ []) refl (doubled_closed bs)

pub quoted_closed : (content : List ℕ) → is_closed false (quoted content) ≡ true
quoted_closed content = doubled_closed content

pub signed_closed : (n : ℤ) → is_closed false (signed_decimal n) ≡ true
signed_closed (pos n) = decimal_closed n
signed_closed (negsuc n) = closed_append false (45 ∷ []) (decimal (suc n)) refl (decimal_closed (suc n))

sign_closed : (s : ASign) → is_closed false (sign_bytes s) ≡ true
sign_closed sign.Open = refl
sign_closed sign.Close = refl
sign_closed sign.Comma = refl
sign_closed sign.Dot = refl
sign_closed sign.Arrow = refl
sign_closed sign.Equal = refl
sign_closed sign.NotEqual = refl
sign_closed sign.Less = refl
sign_closed sign.LessEqual = refl
sign_closed sign.Greater = refl
sign_closed sign.GreaterEqual = refl

pub symbol_closed : (x : Symbol) → IsSymbol x → is_closed false (spelled x) ≡ true
symbol_closed (Word w) h = letters_closed w (word_all w h)
symbol_closed (Int n) h = signed_closed n
symbol_closed (Text content) h = quoted_closed content
symbol_closed (Sign s) h = sign_closed s

-- ---- a text without a line feed outside quotes, and its words

abbrev pub is_line : Bool → List ℕ → Bool
is_line q [] = not q
is_line q (b ∷ bs) = (q || not (b == 10)) && is_line (cond (b == 39) (not q) q) bs

weaker : (q x y : Bool) → (q || not (x || y)) ≡ true → (q || not x) ≡ true
weaker true x y h = refl
weaker false false y h = refl
weaker false true y h = h

line_append : (q : Bool) (v w : List ℕ) → is_closed q v ≡ true → is_line false w ≡ true → is_line q (v ++ w) ≡ true
line_append true [] w h k = absurd (let e : false ≡ true = h in cc)
line_append false [] w h k = k
line_append q (b ∷ bs) w h k =
    let next = cond (b == 39) (not q) q in
    let parts = and_parts (q || not (b == 10 || b == 32)) (is_closed next bs) h in
    both _ _ (weaker q (b == 10) (b == 32) parts.0) (line_append next bs w parts.1 k)

after_choice : (t : Bool) (rest : List ℕ) → is_line false rest ≡ true → is_line false (cond t rest (32 ∷ rest)) ≡ true
after_choice true rest h = h
after_choice false rest h = h

after_line : (x : Symbol) (ys : List Symbol) → AllByRecursion IsSymbol ys → is_line false (after x ys) ≡ true
after_line x [] h = refl
after_line x (y ∷ ys) h =
    after_choice (opens x || closes y) (spelled y ++ after y ys) (line_append false (spelled y) (after y ys) (symbol_closed y h.0) (after_line y ys h.1))

pub spaced_line : (xs : List Symbol) → AllByRecursion IsSymbol xs → is_line false (spaced xs) ≡ true
spaced_line [] h = refl
spaced_line (x ∷ xs) h = line_append false (spelled x) (after x xs) (symbol_closed x h.0) (after_line x xs h.1)

-- words whose first is closed where a quote may be open before it
abbrev ClosedFrom : Bool → List (List ℕ) → Type 0
ClosedFrom q [] = ⊥
ClosedFrom q (w ∷ ws) = (is_closed q w ≡ true) × AllClosed ws

longer_closed : (q : Bool) (b : ℕ) (ws : List (List ℕ)) → (q || not (b == 10 || b == 32)) ≡ true → ClosedFrom (cond (b == 39) (not q) q) ws → ClosedFrom q (longer b ws)
longer_closed q b [] h k = absurd k
longer_closed q b (w ∷ ws) h k = (both _ _ h k.0, k.1)

all_closed : (ws : List (List ℕ)) → ClosedFrom false ws → AllClosed ws
all_closed [] h = absurd h
all_closed (w ∷ ws) h = both _ _ h.0 h.1

stays : (q x y : Bool) → (not q && y) ≡ false → (q || not x) ≡ true → (q || not (x || y)) ≡ true
stays true x y e h = refl
stays false false false e h = refl
stays false false true e h = absurd (let k : true ≡ false = e in cc)
stays false true y e h = absurd (let k : false ≡ true = h in cc)

words_step : (t q : Bool) (b : ℕ) (bs : List ℕ) → (not q && (b == 32)) ≡ t → is_line q (b ∷ bs) ≡ true
    → (t ≡ true → AllClosed (words_in false bs)) → ClosedFrom (cond (b == 39) (not q) q) (words_in (cond (b == 39) (not q) q) bs)
    → ClosedFrom q (cond t ([] ∷ words_in false bs) (longer b (words_in (cond (b == 39) (not q) q) bs)))
words_step true true b bs e h a k = absurd (let k : false ≡ true = e in cc)
words_step true false b bs e h a k = (refl, a refl)
words_step false q b bs e h a k =
    let parts = and_parts (q || not (b == 10)) (is_line (cond (b == 39) (not q) q) bs) h in
    longer_closed q b (words_in (cond (b == 39) (not q) q) bs) (stays q (b == 10) (b == 32) e parts.0) k

-- at a blank no quote is open behind it either
at_blank : (q : Bool) (b : ℕ) → (not q && (b == 32)) ≡ true → cond (b == 39) (not q) q ≡ false
at_blank true b e = absurd (let k : false ≡ true = e in cc)
at_blank false b e = let other : (b == 39) ≡ false = grind (arith, nat_tests, e) in ap (λ t. cond t true false) other

words_closed : (q : Bool) (bs : List ℕ) → is_line q bs ≡ true → ClosedFrom q (words_in q bs)
words_closed q [] h = (h, refl)
words_closed q (b ∷ bs) h =
    let parts = and_parts (q || not (b == 10)) (is_line (cond (b == 39) (not q) q) bs) h in
    words_step (not q && (b == 32)) q b bs refl h
    (λ t. all_closed (words_in false bs) (words_closed false bs (ap (λ v. is_line v bs) (sym (at_blank q b t)) ∙ parts.1)))
    (words_closed (cond (b == 39) (not q) q) bs parts.1)

pub query_words_closed : (text : List ℕ) → is_line false text ≡ true → AllClosed (words_in false text)
query_words_closed text h = all_closed (words_in false text) (words_closed false text h)

-- ---- words with blanks between them are the text again

abbrev pub IsSome : List (List ℕ) → Type 0
IsSome [] = ⊥
IsSome (w ∷ ws) = Unit {0}

longer_some : (t : Bool) (b : ℕ) (xs ys : List (List ℕ)) → IsSome (cond t ([] ∷ xs) (longer b ys))
longer_some true b xs ys = tt
longer_some false b xs [] = tt
longer_some false b xs (y ∷ ys) = tt

pub words_some : (q : Bool) (bs : List ℕ) → IsSome (words_in q bs)
words_some q [] = tt
words_some q (b ∷ bs) = longer_some (not q && (b == 32)) b (words_in false bs) (words_in (cond (b == 39) (not q) q) bs)

pub blanks_some : (ws : List (List ℕ)) → IsSome ws → blanks ws ≡ 32 ∷ joined ws
blanks_some [] h = absurd h
blanks_some (w ∷ ws) h = refl

joined_longer : (b : ℕ) (ws : List (List ℕ)) → joined (longer b ws) ≡ b ∷ joined ws
joined_longer b [] = refl
joined_longer b (w ∷ ws) = refl

joined_step : (t q : Bool) (b : ℕ) (bs : List ℕ) → (not q && (b == 32)) ≡ t → joined (words_in false bs) ≡ bs → joined (words_in (cond (b == 39) (not q) q) bs) ≡ bs
    → joined (cond t ([] ∷ words_in false bs) (longer b (words_in (cond (b == 39) (not q) q) bs))) ≡ b ∷ bs
joined_step true true b bs e h k = absurd (let k : false ≡ true = e in cc)
joined_step true false b bs e h k =
    let at : 32 ≡ b = grind (arith, nat_tests, e) in
    blanks_some (words_in false bs) (words_some false bs) ∙ ap (λ t. 32 ∷ t) h ∙ ap (λ c. c ∷ bs) at
joined_step false q b bs e h k = joined_longer b (words_in (cond (b == 39) (not q) q) bs) ∙ ap (λ t. b ∷ t) k

pub words_joined : (q : Bool) (bs : List ℕ) → joined (words_in q bs) ≡ bs
words_joined q [] = refl
words_joined q (b ∷ bs) = joined_step (not q && (b == 32)) q b bs refl (words_joined false bs) (words_joined (cond (b == 39) (not q) q) bs)
