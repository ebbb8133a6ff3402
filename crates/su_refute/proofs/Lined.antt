-- Lines that are written are read as their symbols.
use Rattle.std.proofs.Common.{◌≡◌, ℕ, Bool, true, false, ◌||◌, ◌==◌, List, [], ◌∷◌, ◌++◌, flat_map, All, refl, sym, subst, append_assoc}
use Rattle.std.specs.List.{AllByRecursion}
use Rattle.std.proofs.lemmas.List.Elements.{recursion_from_All, All-head, All-tail}
use Rattle.su_base.specs.Name.{is_letter_or_digit}
use Rattle.su_lex.specs.Blanks.{begins, Gap}
use Rattle.su_lex.specs.Blanks as b
use Rattle.su_lex.specs.TokenForms.{lengthens}
use Rattle.su_lex.specs.declared.meaning.Symbol.{Symbol}
use Rattle.su_lex.specs.declared.meaning.Symbol.TheVariants.{Word, Int, Text, Sign}
use Rattle.su_lex.specs.declared.signs.Sign.TheVariants as sign
use Rattle.su_lex.specs.Symbols.{Symbols, IsSymbol}
use Rattle.su_lex.specs.Spelling.{spelled, opens, closes, after, spaced}
use Rattle.su_lex.specs.inside.Firsts.{IsTokenOf}
use Rattle.su_lex.proofs.Written.{SymbolsAt, spelled_symbol, symbols_from}
use Rattle.su_refute.specs.Written.{lines_text}

-- what stands before a line feed
begins_before : (p : ℕ → Bool) (bs t : List ℕ) → p 10 ≡ false → begins p bs ≡ false → begins p (bs ++ 10 ∷ t) ≡ false
begins_before p [] t feed none = feed
begins_before p (x ∷ bs) t feed none = none

token_before : (x : Symbol) (ys : List Symbol) (t : List ℕ) → IsSymbol x → IsTokenOf x (spelled x) (after x ys ++ 10 ∷ t)
token_before (Word w) ys t v = let h = spelled_symbol (Word w) ys v in (h.0, (h.1.0, begins_before is_letter_or_digit (after (Word w) ys) t refl h.1.1))
token_before (Int n) ys t v = let h = spelled_symbol (Int n) ys v in (h.0, h.1, h.2, begins_before is_letter_or_digit (after (Int n) ys) t refl h.3)
token_before (Text s) ys t v = let h = spelled_symbol (Text s) ys v in (h.0, h.1, h.2, begins_before (λ b. b == 39) (after (Text s) ys) t refl h.3)
token_before (Sign sign.Open) ys t v = let h = spelled_symbol (Sign sign.Open) ys v in (h.0, begins_before (lengthens sign.Open) (after (Sign sign.Open) ys) t refl h.1)
token_before (Sign sign.Close) ys t v = let h = spelled_symbol (Sign sign.Close) ys v in (h.0, begins_before (lengthens sign.Close) (after (Sign sign.Close) ys) t refl h.1)
token_before (Sign sign.Comma) ys t v = let h = spelled_symbol (Sign sign.Comma) ys v in (h.0, begins_before (lengthens sign.Comma) (after (Sign sign.Comma) ys) t refl h.1)
token_before (Sign sign.Dot) ys t v = let h = spelled_symbol (Sign sign.Dot) ys v in (h.0, begins_before (lengthens sign.Dot) (after (Sign sign.Dot) ys) t refl h.1)
token_before (Sign sign.Arrow) ys t v = let h = spelled_symbol (Sign sign.Arrow) ys v in (h.0, begins_before (lengthens sign.Arrow) (after (Sign sign.Arrow) ys) t refl h.1)
token_before (Sign sign.Equal) ys t v = let h = spelled_symbol (Sign sign.Equal) ys v in (h.0, begins_before (lengthens sign.Equal) (after (Sign sign.Equal) ys) t refl h.1)
token_before (Sign sign.NotEqual) ys t v = let h = spelled_symbol (Sign sign.NotEqual) ys v in (h.0, begins_before (lengthens sign.NotEqual) (after (Sign sign.NotEqual) ys) t refl h.1)
token_before (Sign sign.Less) ys t v = let h = spelled_symbol (Sign sign.Less) ys v in (h.0, begins_before (lengthens sign.Less) (after (Sign sign.Less) ys) t refl h.1)
token_before (Sign sign.LessEqual) ys t v = let h = spelled_symbol (Sign sign.LessEqual) ys v in (h.0, begins_before (lengthens sign.LessEqual) (after (Sign sign.LessEqual) ys) t refl h.1)
token_before (Sign sign.Greater) ys t v = let h = spelled_symbol (Sign sign.Greater) ys v in (h.0, begins_before (lengthens sign.Greater) (after (Sign sign.Greater) ys) t refl h.1)
token_before (Sign sign.GreaterEqual) ys t v = let h = spelled_symbol (Sign sign.GreaterEqual) ys v in (h.0, begins_before (lengthens sign.GreaterEqual) (after (Sign sign.GreaterEqual) ys) t refl h.1)

between : (x y : Symbol) (ys : List Symbol) (t : List ℕ) → Gap (after x (y ∷ ys) ++ t) ((spelled y ++ after y ys) ++ t)
between x y ys t = elim (opens x || closes y) as (λ v. (opens x || closes y) ≡ v → Gap (after x (y ∷ ys) ++ t) ((spelled y ++ after y ys) ++ t)) [
  | true ↦ λ e. rw e (b.none _ _ refl)
  | false ↦ λ e. rw e (b.space 32 _ ((spelled y ++ after y ys) ++ t) _ refl refl (b.none _ _ refl))
] refl

behind_line : (x : Symbol) (ys : List Symbol) (t : List ℕ) (xs : List Symbol) → AllByRecursion IsSymbol ys → SymbolsAt (10 ∷ t) xs → SymbolsAt (after x ys ++ 10 ∷ t) (ys ++ xs)
behind_line x [] t xs vs h = h
behind_line x (y ∷ ys) t xs vs h =
    ((spelled y ++ after y ys) ++ 10 ∷ t, spelled y, after y ys ++ 10 ∷ t, between x y ys (10 ∷ t), append_assoc (spelled y) (after y ys) (10 ∷ t), token_before y ys t vs.0, behind_line y ys t xs vs.1 h)

line_before : (line : List Symbol) (t : List ℕ) (xs : List Symbol) → AllByRecursion IsSymbol line → SymbolsAt (10 ∷ t) xs → SymbolsAt (spaced line ++ 10 ∷ t) (line ++ xs)
line_before [] t xs vs h = h
line_before (x ∷ ys) t xs vs h =
    ((spelled x ++ after x ys) ++ 10 ∷ t, spelled x, after x ys ++ 10 ∷ t, b.none _ _ refl, append_assoc (spelled x) (after x ys) (10 ∷ t), token_before x ys t vs.0, behind_line x ys t xs vs.1 h)

-- a line feed goes before the symbols
feed_before : (t : List ℕ) (xs : List Symbol) → SymbolsAt t xs → SymbolsAt (10 ∷ t) xs
feed_before t [] h = b.space 10 (10 ∷ t) t [] refl refl h
feed_before t (x ∷ xs) h = (h.0, h.1, h.2, b.space 10 (10 ∷ t) t h.0 refl refl h.3, h.4, h.5, h.6)

lines_at : (lines : List (List Symbol)) → All (All IsSymbol) lines → SymbolsAt (lines_text lines) (flat_map (λ line. line) lines)
lines_at [] all = b.none [] [] refl
lines_at (l ∷ ls) all =
    let rest = lines_at ls (All-tail (All IsSymbol) l ls all) in
    let whole : lines_text (l ∷ ls) ≡ spaced l ++ 10 ∷ lines_text ls = append_assoc (spaced l) (10 ∷ []) (lines_text ls) in
    subst (λ s. SymbolsAt s (l ++ flat_map (λ line. line) ls)) (sym whole) (line_before l (lines_text ls) (flat_map (λ line. line) ls) (recursion_from_All IsSymbol l (All-head (All IsSymbol) l ls all)) (feed_before (lines_text ls) (flat_map (λ line. line) ls) rest))

pub lines_are_read : (lines : List (List Symbol)) → All (All IsSymbol) lines → Symbols (lines_text lines) (flat_map (λ line. line) lines)
lines_are_read lines all = symbols_from (lines_text lines) (flat_map (λ line. line) lines) (lines_at lines all)
