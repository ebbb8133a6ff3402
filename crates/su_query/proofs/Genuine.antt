-- A condition of symbols that a text can have is shown in such symbols.
use Rattle.std.proofs.Common.{◌≡◌, ℕ, true, false, cond, List, [], ◌∷◌, ◌++◌, map, length, nat_lt, refl, ap, sym, ◌∙◌, subst, codes, arith}
use Rattle.std.specs.List.{AllByRecursion, list_all}
use Rattle.std.specs.Prelude.{◌&&◌, IsTrue}
use Rattle.std.proofs.lemmas.Bool.Decides.{nat_tests}
use Rattle.std.proofs.lemmas.List.Elements.{All-from_recursion}
use Rattle.su_base.specs.Name.{IsWord, is_letter, is_letter_or_digit}
use Rattle.su_lex.specs.declared.signs.Sign.TheVariants as sign
use Rattle.su_lex.specs.declared.meaning.Symbol.{Symbol}
use Rattle.su_lex.specs.declared.meaning.Symbol.TheVariants.{Word, Sign}
use Rattle.su_lex.specs.Symbols.{IsSymbol}
use Rattle.su_lex.specs.Wordings.{in_parens}
use Rattle.su_where.specs.declared.conditions.Condition.TheVariants.{Compare, Not, All, Any}
use Rattle.su_query.specs.Refs.{NamedCond}
use Rattle.su_query.specs.Grammar as g
use Rattle.su_query.specs.Grammar.{IsCond, AreConjs, IsConj, AreFactors, IsFactor, IsPrimary, any_of, all_of}
use Rattle.su_query.specs.ShownConditions.{ShownCond, shown_cond, cond_symbols, part, inner, joined}
use Rattle.su_query.proofs.CondShown.{shown-Compare, shown-Not, shown-All, shown-Any}

abbrev pub AreSymbols : List Symbol → Type 0
AreSymbols = AllByRecursion IsSymbol

pub append_are : (xs ys : List Symbol) → AreSymbols xs → AreSymbols ys → AreSymbols (xs ++ ys)
append_are [] ys a b = b
append_are (x ∷ xs) ys a b = (a.0, append_are xs ys a.1 b)

-- those in front, and those behind
pub front_of : (xs ys : List Symbol) → AreSymbols (xs ++ ys) → AreSymbols xs
front_of [] ys a = tt
front_of (x ∷ xs) ys a = (a.0, front_of xs ys a.1)

pub behind_of : (xs ys : List Symbol) → AreSymbols (xs ++ ys) → AreSymbols ys
behind_of [] ys a = a
behind_of (x ∷ xs) ys a = behind_of xs ys a.1

pub parens_are : (s : List Symbol) → AreSymbols s → AreSymbols (in_parens s)
parens_are s a = (tt, append_are s (Sign sign.Close ∷ []) a (tt, tt))

pub within_parens : (s : List Symbol) → AreSymbols (in_parens s) → AreSymbols s
within_parens s a = front_of s (Sign sign.Close ∷ []) a.1

letters : (w : List ℕ) → list_all is_letter_or_digit w ≡ true → AllByRecursion (λ c. IsTrue (is_letter_or_digit c)) w
letters [] e = tt
letters (b ∷ bs) e =
    elim (is_letter_or_digit b) as (λ v. (v && list_all is_letter_or_digit bs) ≡ true → IsTrue v × AllByRecursion (λ c. IsTrue (is_letter_or_digit c)) bs) [
      | true ↦ λ k. (refl, letters bs k)
      | false ↦ λ k. absurd (cc)
    ] e

keyword : (b : ℕ) (bs : List ℕ) → is_letter b ≡ true → list_all is_letter_or_digit bs ≡ true → nat_lt (length bs) 64 ≡ true → IsWord (b ∷ bs)
keyword b bs first others few = (first, All-from_recursion (λ c. IsTrue (is_letter_or_digit c)) bs (letters bs others), grind (arith, nat_tests, few))

and_is : IsSymbol (Word (codes "and"))
and_is = keyword 97 (110 ∷ 100 ∷ []) refl refl refl

or_is : IsSymbol (Word (codes "or"))
or_is = keyword 111 (114 ∷ []) refl refl refl

part_are : (x : ShownCond) → AreSymbols x.symbols → AreSymbols (part x)
part_are x a = elim (x.many) as (λ b. AreSymbols (cond b (in_parens x.symbols) x.symbols)) [ true ↦ parens_are x.symbols a | false ↦ a ]

inner_are : (x : ShownCond) → AreSymbols x.symbols → AreSymbols (inner x)
inner_are x a = elim (x.compare) as (λ b. AreSymbols (cond b x.symbols (in_parens x.symbols))) [ true ↦ a | false ↦ parens_are x.symbols a ]

abbrev pub IsGenuine : NamedCond → Type 0
IsGenuine c = AreSymbols (cond_symbols c)

joined_are : (w : Symbol) → IsSymbol w → (cs : List NamedCond) → AllByRecursion IsGenuine cs → AreSymbols (joined w (map shown_cond cs))
joined_are w v [] a = tt
joined_are w v (c ∷ []) a = append_are (part (shown_cond c)) [] (part_are (shown_cond c) a.0) tt
joined_are w v (c ∷ d ∷ ds) a = append_are (part (shown_cond c)) (w ∷ joined w (map shown_cond (d ∷ ds))) (part_are (shown_cond c) a.0) (v, joined_are w v (d ∷ ds) a.1)

by_shown : (c : NamedCond) (x : ShownCond) → shown_cond c ≡ x → AreSymbols x.symbols → IsGenuine c
by_shown c x e a = subst (λ (y : ShownCond). AreSymbols y.symbols) (sym e) a

any_genuine : (c : NamedCond) (cs : List NamedCond) → IsGenuine c → AllByRecursion IsGenuine cs → IsGenuine (any_of (c ∷ cs))
any_genuine c [] a more = a
any_genuine c (d ∷ ds) a more = by_shown (Any (c ∷ d ∷ ds)) _ (shown-Any (c ∷ d ∷ ds)) (joined_are (Word (codes "or")) or_is (c ∷ d ∷ ds) (a, more))

all_genuine : (c : NamedCond) (cs : List NamedCond) → IsGenuine c → AllByRecursion IsGenuine cs → IsGenuine (all_of (c ∷ cs))
all_genuine c [] a more = a
all_genuine c (d ∷ ds) a more = by_shown (All (c ∷ d ∷ ds)) _ (shown-All (c ∷ d ∷ ds)) (joined_are (Word (codes "and")) and_is (c ∷ d ∷ ds) (a, more))

-- ---- by the derivation

-- parts, one at least, that are shown so
abbrev AreGenuine : List NamedCond → Type 0
AreGenuine cs = (p : NamedCond) × (ps : List NamedCond) × (cs ≡ p ∷ ps) × IsGenuine p × AllByRecursion IsGenuine ps

more_genuine : (cs : List NamedCond) (c : NamedCond) (ds : List NamedCond) → cs ≡ c ∷ ds → IsGenuine c → AreGenuine ds → AreGenuine cs
more_genuine cs c ds e a (p, ps, w, one, more) = (c, ds, e, a, subst (AllByRecursion IsGenuine) (sym w) (one, more))

mutual
  pub genuine_cond : (c : NamedCond) (s : List Symbol) → IsCond c s → AreSymbols s → IsGenuine c
  genuine_cond c s (g.cond _ cs _ e hs) v = let p = genuine_conjs cs s hs v in subst IsGenuine (sym (e ∙ ap any_of p.2)) (any_genuine p.0 p.1 p.3 p.4)

  genuine_conjs : (cs : List NamedCond) (s : List Symbol) → AreConjs cs s → AreSymbols s → AreGenuine cs
  genuine_conjs cs s (g.one_conj _ c _ e h) v = (c, [], e, genuine_conj c s h v, tt)
  genuine_conjs cs s (g.or _ c ds _ t u e w h hs) v =
      let a = subst AreSymbols w v in
      more_genuine cs c ds e (genuine_conj c t h (front_of t (Word (codes "or") ∷ u) a)) (genuine_conjs ds u hs (behind_of t (Word (codes "or") ∷ u) a).1)

  genuine_conj : (c : NamedCond) (s : List Symbol) → IsConj c s → AreSymbols s → IsGenuine c
  genuine_conj c s (g.conj _ cs _ e hs) v = let p = genuine_factors cs s hs v in subst IsGenuine (sym (e ∙ ap all_of p.2)) (all_genuine p.0 p.1 p.3 p.4)

  genuine_factors : (cs : List NamedCond) (s : List Symbol) → AreFactors cs s → AreSymbols s → AreGenuine cs
  genuine_factors cs s (g.one_factor _ c _ e h) v = (c, [], e, genuine_factor c s h v, tt)
  genuine_factors cs s (g.and _ c ds _ t u e w h hs) v =
      let a = subst AreSymbols w v in
      more_genuine cs c ds e (genuine_factor c t h (front_of t (Word (codes "and") ∷ u) a)) (genuine_factors ds u hs (behind_of t (Word (codes "and") ∷ u) a).1)

  genuine_factor : (c : NamedCond) (s : List Symbol) → IsFactor c s → AreSymbols s → IsGenuine c
  genuine_factor c s (g.plain _ _ h) v = genuine_primary c s h v
  genuine_factor c s (g.negated _ d _ t e w h) v =
      let a = subst AreSymbols w v in
      subst IsGenuine (sym e) (by_shown (Not d) _ (shown-Not d) (a.0, inner_are (shown_cond d) (genuine_primary d t h a.1)))

  genuine_primary : (c : NamedCond) (s : List Symbol) → IsPrimary c s → AreSymbols s → IsGenuine c
  genuine_primary c s (g.nested _ _ t e h) v = genuine_cond c t h (within_parens t (subst AreSymbols e v))
  genuine_primary c s (g.compare _ k _ e w left right) v = subst IsGenuine (sym e) (by_shown (Compare k) _ (shown-Compare k) (subst AreSymbols w v))
