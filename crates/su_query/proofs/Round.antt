-- A condition is shown in symbols that are this condition.
use Rattle.std.proofs.Common.{◌≡◌, true, false, List, [], ◌∷◌, map, refl, ap, sym, ◌∙◌, subst, codes, append-nil, arith}
use Rattle.std.specs.Prelude.{◌==◌, length}
use Rattle.std.specs.List.{AllByRecursion}
use Rattle.std.proofs.lemmas.Bool.Decides.{nat_tests}
use Rattle.su_lex.specs.declared.meaning.Symbol.{Symbol}
use Rattle.su_lex.specs.declared.meaning.Symbol.TheVariants.{Word}
use Rattle.su_lex.specs.Wordings.{in_parens}
use Rattle.su_where.specs.declared.conditions.Condition.TheVariants.{Compare, Not, All, Any}
use Rattle.su_query.specs.declared.conditions.Comparison.{Comparison}
use Rattle.su_query.specs.Refs.{NamedCond}
use Rattle.su_query.specs.Operands.{IsOperand}
use Rattle.su_query.specs.Grammar as g
use Rattle.su_query.specs.Grammar.{IsCond, AreConjs, IsConj, AreFactors, IsFactor, IsPrimary, any_of, all_of}
use Rattle.su_query.specs.ShownParts.{comparison_symbols}
use Rattle.su_query.specs.ShownConditions.{ShownCond, shown_cond, cond_symbols, part, inner, joined}
use Rattle.su_query.specs.Shown.{is_nothing}
use Rattle.su_query.proofs.CondShown.{shown-Compare, shown-Not, shown-All, shown-Any, nothing-Compare, nothing-Not, nothing-All, nothing-Any}

-- the symbols of a condition are this condition: alone, as a part and behind `not`
pub record Good (c : NamedCond) : Type 0 where
  pub some : is_nothing c ≡ false
  pub bare : IsCond c (cond_symbols c)
  pub as_part : IsFactor c (part (shown_cond c))
  pub as_inner : IsPrimary c (inner (shown_cond c))

wrapped : (c : NamedCond) (s : List Symbol) → IsCond c s → IsPrimary c (in_parens s)
wrapped c s bare = g.nested c (in_parens s) s refl bare

-- one factor alone is a conjunction, and one conjunction alone a condition
one_conj : (c : NamedCond) (s : List Symbol) → IsFactor c s → IsConj c s
one_conj c s h = g.conj c (c ∷ []) s refl (g.one_factor (c ∷ []) c s refl h)

one_cond : (c : NamedCond) (s : List Symbol) → IsConj c s → IsCond c s
one_cond c s h = g.cond c (c ∷ []) s refl (g.one_conj (c ∷ []) c s refl h)

ors : (p : NamedCond) (ps : List NamedCond) → Good p → AllByRecursion Good ps → AreConjs (p ∷ ps) (joined (Word (codes "or")) (map shown_cond (p ∷ ps)))
ors p [] good more = subst (AreConjs (p ∷ [])) (sym (append-nil (part (shown_cond p)))) (g.one_conj (p ∷ []) p _ refl (one_conj p _ good.as_part))
ors p (q ∷ ps) good more = g.or (p ∷ q ∷ ps) p (q ∷ ps) _ (part (shown_cond p)) (joined (Word (codes "or")) (map shown_cond (q ∷ ps))) refl refl (one_conj p _ good.as_part) (ors q ps more.0 more.1)

ands : (p : NamedCond) (ps : List NamedCond) → Good p → AllByRecursion Good ps → AreFactors (p ∷ ps) (joined (Word (codes "and")) (map shown_cond (p ∷ ps)))
ands p [] good more = subst (AreFactors (p ∷ [])) (sym (append-nil (part (shown_cond p)))) (g.one_factor (p ∷ []) p _ refl good.as_part)
ands p (q ∷ ps) good more = g.and (p ∷ q ∷ ps) p (q ∷ ps) _ (part (shown_cond p)) (joined (Word (codes "and")) (map shown_cond (q ∷ ps))) refl refl good.as_part (ands q ps more.0 more.1)

from_shown : (c : NamedCond) (x : ShownCond) → shown_cond c ≡ x → is_nothing c ≡ false → IsCond c x.symbols → IsFactor c (part x) → IsPrimary c (inner x) → Good c
from_shown c x e some bare factor primary = record {
  some = some;
  bare = subst (λ (y : ShownCond). IsCond c y.symbols) (sym e) bare;
  as_part = subst (λ (y : ShownCond). IsFactor c (part y)) (sym e) factor;
  as_inner = subst (λ (y : ShownCond). IsPrimary c (inner y)) (sym e) primary;
}

good_many : (c : NamedCond) (s : List Symbol) → shown_cond c ≡ record { many = true; compare = false; symbols = s } → is_nothing c ≡ false → IsCond c s → Good c
good_many c s e some bare = from_shown c (record { many = true; compare = false; symbols = s }) e some bare (g.plain c (in_parens s) (wrapped c s bare)) (wrapped c s bare)

good_any : (p q : NamedCond) (ps : List NamedCond) → AllByRecursion Good (p ∷ q ∷ ps) → Good (Any (p ∷ q ∷ ps))
good_any p q ps good = good_many (Any (p ∷ q ∷ ps)) _ (shown-Any (p ∷ q ∷ ps)) (nothing-Any (p ∷ q ∷ ps)) (g.cond (Any (p ∷ q ∷ ps)) (p ∷ q ∷ ps) _ refl (ors p (q ∷ ps) good.0 good.1))

not_empty : (c : NamedCond) (cs : List NamedCond) → (length (c ∷ cs) == 0) ≡ false
not_empty c cs = grind (arith, nat_tests)

good_all : (p q : NamedCond) (ps : List NamedCond) → AllByRecursion Good (p ∷ q ∷ ps) → Good (All (p ∷ q ∷ ps))
good_all p q ps good =
    good_many (All (p ∷ q ∷ ps)) _ (shown-All (p ∷ q ∷ ps)) (nothing-All (p ∷ q ∷ ps) ∙ not_empty p (q ∷ ps))
    (one_cond (All (p ∷ q ∷ ps)) _ (g.conj (All (p ∷ q ∷ ps)) (p ∷ q ∷ ps) _ refl (ands p (q ∷ ps) good.0 good.1)))

good_not : (c : NamedCond) → Good c → Good (Not c)
good_not c good =
    let s = Word (codes "not") ∷ inner (shown_cond c) in
    let factor = g.negated (Not c) c s (inner (shown_cond c)) refl refl good.as_inner in
    let bare = one_cond (Not c) s (one_conj (Not c) s factor) in
    from_shown (Not c) (record { many = false; compare = false; symbols = s }) (shown-Not c) (nothing-Not c) bare factor (wrapped (Not c) s bare)

good_compare : (k : Comparison) → IsOperand k.left → IsOperand k.right → Good (Compare k)
good_compare k left right =
    let s = comparison_symbols k in
    let primary = g.compare (Compare k) k s refl refl left right in
    let factor = g.plain (Compare k) s primary in
    from_shown (Compare k) (record { many = false; compare = true; symbols = s }) (shown-Compare k) (nothing-Compare k) (one_cond (Compare k) s (one_conj (Compare k) s factor)) factor primary

-- ---- by the derivation

-- parts, one at least, each shown in symbols that are this part
abbrev AreGood : List NamedCond → Type 0
AreGood cs = (p : NamedCond) × (ps : List NamedCond) × (cs ≡ p ∷ ps) × Good p × AllByRecursion Good ps

more_good : (cs : List NamedCond) (c : NamedCond) (ds : List NamedCond) → cs ≡ c ∷ ds → Good c → AreGood ds → AreGood cs
more_good cs c ds e good (p, ps, w, one, more) = (c, ds, e, good, subst (AllByRecursion Good) (sym w) (one, more))

any_good : (p : NamedCond) (ps : List NamedCond) → Good p → AllByRecursion Good ps → Good (any_of (p ∷ ps))
any_good p [] one more = one
any_good p (q ∷ ps) one more = good_any p q ps (one, more)

all_good : (p : NamedCond) (ps : List NamedCond) → Good p → AllByRecursion Good ps → Good (all_of (p ∷ ps))
all_good p [] one more = one
all_good p (q ∷ ps) one more = good_all p q ps (one, more)

mutual
  pub good_cond : (c : NamedCond) (s : List Symbol) → IsCond c s → Good c
  good_cond c s (g.cond _ cs _ e hs) = let p = good_conjs cs s hs in subst Good (sym (e ∙ ap any_of p.2)) (any_good p.0 p.1 p.3 p.4)

  good_conjs : (cs : List NamedCond) (s : List Symbol) → AreConjs cs s → AreGood cs
  good_conjs cs s (g.one_conj _ c _ e h) = (c, [], e, good_conj c s h, tt)
  good_conjs cs s (g.or _ c ds _ t u e w h hs) = more_good cs c ds e (good_conj c t h) (good_conjs ds u hs)

  good_conj : (c : NamedCond) (s : List Symbol) → IsConj c s → Good c
  good_conj c s (g.conj _ cs _ e hs) = let p = good_factors cs s hs in subst Good (sym (e ∙ ap all_of p.2)) (all_good p.0 p.1 p.3 p.4)

  good_factors : (cs : List NamedCond) (s : List Symbol) → AreFactors cs s → AreGood cs
  good_factors cs s (g.one_factor _ c _ e h) = (c, [], e, good_factor c s h, tt)
  good_factors cs s (g.and _ c ds _ t u e w h hs) = more_good cs c ds e (good_factor c t h) (good_factors ds u hs)

  good_factor : (c : NamedCond) (s : List Symbol) → IsFactor c s → Good c
  good_factor c s (g.plain _ _ h) = good_primary c s h
  good_factor c s (g.negated _ d _ t e w h) = subst Good (sym e) (good_not d (good_primary d t h))

  good_primary : (c : NamedCond) (s : List Symbol) → IsPrimary c s → Good c
  good_primary c s (g.nested _ _ t e h) = good_cond c t h
  good_primary c s (g.compare _ k _ e w left right) = subst Good (sym e) (good_compare k left right)
